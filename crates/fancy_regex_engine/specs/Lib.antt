pub mod EngineAgreement
