mod Members
mod Alone
