-- The core's laws for every pair, on which a run of the machine depends. Only for proofs.
use Rattle.relay_core.specs.Laws.{AnswersKeepPlace, FailuresAreTold, LivePairsRest, OnlyOverduePairsExpire}

pub record CoreLaws : Type 0 where
  pub place : AnswersKeepPlace
  pub failures : FailuresAreTold
  pub rest : LivePairsRest
  pub overdue : OnlyOverduePairsExpire
