use Rattle.call_kind.proofs.+all_runs_some_run.Given as goal

abbrev pub decreases-all_runs : goal.decreases-all_runs
decreases-all_runs l = l.t

abbrev pub decreases-some_run : goal.decreases-some_run
decreases-some_run l = l.t
