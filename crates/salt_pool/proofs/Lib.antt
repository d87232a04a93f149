-- Laws of the salt pool's definitions.
pub mod PoolLaws
pub mod StoreLaws
pub mod MeetLaws
pub mod RunLaws
pub mod SaltLaws
