pub mod RefusedBytes
