pub mod RoundTrip
pub mod Told
