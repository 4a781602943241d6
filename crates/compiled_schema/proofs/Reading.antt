-- A text read into an empty store and table.
use Rattle.std.proofs.Common.{◌≡◌, ℕ, List, [], refl, subst}
use Rattle.json_values.specs.declared.parts.Source.{Source}
use Rattle.json_values.specs.declared.table.Entry.{Entry}
use Rattle.json_reader.specs.Law.{Refused, Taken}
use Rattle.json_reader.specs.declared.fault.Fault.{Fault as ReadFault}

module _ (source : Source) (text w : List ℕ) (t : List Entry) (none : w ≡ []) (empty : t ≡ []) where
  pub taken_in : (i : ℕ) (w1 : List ℕ) (t1 : List Entry) → Taken source text w t i w1 t1 → Taken source text [] [] i w1 t1
  taken_in i w1 t1 h = subst (λ (z : List Entry). Taken source text [] z i w1 t1) empty (subst (λ (z : List ℕ). Taken source text z t i w1 t1) none h)

  pub refused_in : (f : ReadFault) (w1 : List ℕ) (t1 : List Entry) → Refused source text w t f w1 t1 → Refused source text [] [] f [] []
  refused_in f w1 t1 h =
      let r = subst (λ (z : List Entry). Refused source text [] z f w1 t1) empty (subst (λ (z : List ℕ). Refused source text z t f w1 t1) none h) in
      record { whose = r.whose; why = r.why; same_text = refl; same_table = refl }
