pub mod CounterLaws
pub mod GctrLaws
pub mod LongLaws
