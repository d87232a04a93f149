pub mod DatagramLaws
pub mod PlanLaws
mod StreamLaws
pub mod RecordingLaws
mod Sip004Laws
