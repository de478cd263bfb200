pub mod CertificateInputs
pub mod CertificateFaults
pub mod CheckText
pub mod Omissions
