pub mod AeadLaws
