pub mod Validations
