pub mod Buffer
pub mod VecBuffer
