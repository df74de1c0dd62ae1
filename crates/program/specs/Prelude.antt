-- The types of `model` that definitions here use.
pub use Rattle.model.specs.declared.Space.{Space}
pub use Rattle.model.specs.declared.Mapping.{Mapping}
pub use Rattle.model.specs.declared.Request.{Request}
pub use Rattle.model.specs.declared.Rests.{Rests}
pub use Rattle.model.specs.declared.Rests.TheVariants.{Lower, Upper, Both}
pub use Rattle.model.specs.declared.Operation.{Operation}
pub use Rattle.model.specs.declared.Operation.TheVariants.{Map, Remap, Unmap}
pub use Rattle.model.specs.declared.Shown.{Shown}
pub use Rattle.model.specs.declared.Shown.TheVariants.{Nothing, Sparse, Object}
pub use Rattle.model.specs.declared.Seen.{Seen}
pub use Rattle.model.specs.declared.Grant.{Grant}
