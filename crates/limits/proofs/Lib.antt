-- Laws for the proofs of the code.
pub mod EntryLaws
pub mod BodyLaws
pub mod Flags
pub mod Places
pub mod StageLaws
pub mod TotalLaws
pub mod ItemLaws
pub mod ApartLaws
pub mod SplitLaws
pub mod Letters
