-- The types of src/lib.rt that definitions use. The library's words stand beside them in each file: leb, ltb, eqb test ≤, <,
-- =; get_or xs i d is the i-th of xs, or d; of the whole numbers ℤ, pos n is n, negsuc n is -(n + 1), sub_ℕ a b is a - b.
pub use Rattle.model.specs.declared.Range.{Range}
pub use Rattle.model.specs.declared.Space.{Space}
pub use Rattle.model.specs.declared.Mapping.{Mapping}
pub use Rattle.model.specs.declared.Request.{Request}
pub use Rattle.model.specs.declared.Rests.{Rests}
pub use Rattle.model.specs.declared.Rests.TheVariants.{Lower, Upper, Both}
pub use Rattle.model.specs.declared.Operation.{Operation}
pub use Rattle.model.specs.declared.Operation.TheVariants.{Map, Remap, Unmap}
pub use Rattle.model.specs.declared.Shown.{Shown}
pub use Rattle.model.specs.declared.Shown.TheVariants.{Nothing, Sparse, Object}
pub use Rattle.model.specs.declared.Seen.{Seen}
pub use Rattle.model.specs.declared.Grant.{Grant}
