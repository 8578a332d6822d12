-- Each by computing the machine's answer, which is true of every text.
use Rattle.rule_grammar.specs.Machine.{judge, step, done, reading}
use Rattle.rule_grammar.proofs.Judged.{judged}
use Rattle.claim_texts.specs.SmallTexts.{AllJudged, small_texts}

pub small_texts_lem : AllJudged small_texts
unfolding judge step done reading
small_texts_lem = (
  judged _,
  (
    judged _,
    (
      judged _,
      (
        judged _,
        (
          judged _,
          (
            judged _,
            (
              judged _,
              (
                judged _,
                (
                  judged _,
                  (
                    judged _,
                    (
                      judged _,
                      (
                        judged _,
                        (
                          judged _,
                          (
                            judged _,
                            (
                              judged _,
                              (
                                judged _,
                                (
                                  judged _,
                                  (
                                    judged _,
                                    (
                                      judged _,
                                      (judged _, tt),
                                    ),
                                  ),
                                ),
                              ),
                            ),
                          ),
                        ),
                      ),
                    ),
                  ),
                ),
              ),
            ),
          ),
        ),
      ),
    ),
  ),
)
