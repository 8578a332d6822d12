pub mod TextTold
pub mod RoundTrips
pub mod SmallTexts
