-- A map or unmap by the rows of its form, and by what is left of it behind them.
-- Assumes nothing.
use mathlib.Core.Path.{◌≡◌, refl, sym, ap, ◌∙◌}
use mathlib.Core.List.{List}
use Prim.Native.Nat.{ℕ}
use Rattle.model.specs.declared.Request.{Request}
use Rattle.model.specs.declared.Space.{Space}
use Rattle.model.specs.Rows.{Reply, refused, answered, decide, verdict}
use Rattle.model.specs.Rules.{sparse_flag, form_rows}
use Rattle.model.specs.Calls.{bytes, asked, request_of, record_rows, decode, Lent, bind_rows, bind}
use Rattle.model.proofs.Rows.{and_then, decide-verdict}
use Rattle.request.specs.Bound.{then, bound}
use Rattle.request.proofs.Bound.{form_then}
use Rattle.bind.specs.declared.Numbers.{Numbers}
use Rattle.bind.specs.Asked.{numbers_of}

module _ (s : Space) (l : Lent) (os : List ℕ) where
  pub bind_by : (q : Numbers) {u : Reply (Unit {0})} → u ≡ verdict (form_rows sparse_flag (asked (numbers_of q)))
      → bind s l os (numbers_of q) ≡ then u l os (λ _. bound s l os (asked (numbers_of q)))
  unfolding bind bind_rows decide
  bind_by q e = rw e (form_then l os (asked (numbers_of q)) s (form_rows sparse_flag (asked (numbers_of q))))

  pub bind_record_by : (bs : List ℕ) {d : Reply Request} → d ≡ decode sparse_flag bs → bind s l os (bytes bs) ≡ then d l os (bound s l os)
  unfolding bind bind_rows record_rows decode
  bind_record_by bs e =
      form_then l os (request_of bs) s (record_rows sparse_flag bs) ∙ go (verdict (record_rows sparse_flag bs))
      ∙ sym (ap (λ d. then d l os (bound s l os)) (e ∙ decide-verdict (record_rows sparse_flag bs) (request_of bs)))
    where
      go : (u : Reply (Unit {0})) → then u l os (λ _. bound s l os (request_of bs)) ≡ then (and_then u (answered (request_of bs))) l os (bound s l os)
      go (refused n p) = refl
      go (answered v) = refl
