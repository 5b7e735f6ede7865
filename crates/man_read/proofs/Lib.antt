mod NameLaws
mod FormLaws
mod ShowingLaws
mod Taking
mod Finished
