-- The types of `model` that definitions here use.
pub use Rattle.model.specs.declared.Space.{Space}
pub use Rattle.model.specs.declared.Mapping.{Mapping}
pub use Rattle.model.specs.declared.Request.{Request}
pub use Rattle.model.specs.declared.Operation.{Operation}
pub use Rattle.model.specs.declared.Shown.TheVariants.{Object}
pub use Rattle.model.specs.declared.Grant.{Grant}
