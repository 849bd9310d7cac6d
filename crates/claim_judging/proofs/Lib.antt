pub mod ClaimFaults
