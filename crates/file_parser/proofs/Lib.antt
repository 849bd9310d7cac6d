pub mod ReadDecls
