mod SettingFacts
mod NumberFacts
mod LimitFacts
