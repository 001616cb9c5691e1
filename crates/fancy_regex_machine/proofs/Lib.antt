mod CallLemmas
pub mod AdvanceLemmas
pub mod AnswerLemmas
pub mod LimitLemmas
mod SpanThreads
mod SpanMoves
mod SpanRuns
mod SpanAnswers
mod EndingLemmas
