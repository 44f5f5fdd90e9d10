pub mod SumReading
