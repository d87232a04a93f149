pub mod InvCipher
