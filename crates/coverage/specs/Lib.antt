pub mod Coverage
mod Examples
