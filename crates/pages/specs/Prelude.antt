-- The types that definitions here use.
pub use Rattle.model.specs.declared.Space.{Space}
pub use Rattle.model.specs.declared.Mapping.{Mapping}
pub use Rattle.model.specs.declared.Shown.{Shown}
pub use Rattle.pages.specs.declared.Entry.{Entry}
