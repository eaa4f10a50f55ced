pub mod KeyReachLaws
pub mod PushReachLaws
pub mod ReachLaws
pub mod UnreadLaws
