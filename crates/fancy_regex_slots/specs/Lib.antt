pub mod UndoLog
pub mod Memory
pub mod Places
