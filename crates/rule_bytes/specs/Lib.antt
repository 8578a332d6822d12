pub mod RuleBytes
pub mod JoinNode
