pub mod Parser
pub mod Reading
