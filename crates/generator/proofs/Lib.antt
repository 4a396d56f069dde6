pub mod Waiting
pub mod EmitExpr
pub mod EmitStmt
