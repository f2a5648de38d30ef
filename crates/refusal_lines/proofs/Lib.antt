mod LineFacts
mod Sinks
