pub mod Spectrum
