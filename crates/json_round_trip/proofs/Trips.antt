-- The laws of reading back.
use Rattle.std.proofs.Common.{◌≡◌, ℕ, ◌+◌, true, leb, List, [], length, Ok, Err, Result, sym, refl, ap, ◌∙◌, subst, ⊎_elim, arith}
use Rattle.json_values.specs.declared.parts.Source.{Source}
use Rattle.json_values.specs.declared.table.Entry.{Entry}
use Rattle.json_reader.proofs.Whole.{read_law}
use Rattle.json_reader.specs.Law.{ReadsAs, Refused}
use Rattle.json_reader.specs.Reading.{Outcome, outcome, reading, roomy}
use Rattle.json_reader.specs.Values.{value_of}
use Rattle.json_reader.specs.declared.fault.Fault.{Fault}
use Rattle.json_round_trip.proofs.Derived.{text_holds}
use Rattle.json_round_trip.proofs.Returns.{fits, same_size, value_same, writable}
use Rattle.json_round_trip.specs.RoundTrip.{Gives, ReadsAgain, ReadsBack, ReadsWithin}
use Rattle.json_scanner.proofs.Answered.{accepted, builds}
use Rattle.json_scanner.specs.Grammar.{Tree}
use Rattle.json_scanner.specs.Machine.{run, start}
use Rattle.json_scanner.specs.Theorem.{Accepted, Builds}
use Rattle.json_scanner.specs.declared.modes.Fault.{Fault as Flaw}
use Rattle.json_writer.proofs.Back.{writes_json}
use Rattle.json_writer.specs.Back.{tree_of}
use Rattle.json_writer.specs.Compact.{compact}
use Rattle.std.proofs.lemmas.Bool.{and_from, and_parts, both_ways, le-leb, leb-true}

-- a text with the tree t, where there is room for it
module _ (source : Source) (text stored : List ℕ) (entries : List Entry) (t : Tree) (runs : run start 0 text ≡ Ok t) (room : roomy text stored entries ≡ true) where
  not-refused : (f : Fault) (w : List ℕ) (es : List Entry) → Refused source text stored entries f w es → ⊥
  not-refused f w es h = ⊎_elim
      (λ k. let e : ◌≡◌ {A = Result Tree Flaw} (Ok t) (Err f.flaw) = sym runs ∙ k.1 in let z : ◌≡◌ {A = ℕ} 0 1 = cc in omega arith)
      (λ k. both_ways (roomy text stored entries) k.0 room)
      h.why

  by_answer : (a : Result ℕ Fault) (w : List ℕ) (es : List Entry) → ReadsAs source text stored entries a w es → Gives source (value_of t) (record { answer = a; text = w; table = es })
  by_answer (Ok i) w es h =
      let e : ◌≡◌ {A = Result Tree Flaw} (Ok h.tree) (Ok t) = sym h.runs ∙ runs in
      let same : h.tree ≡ t = cc in
      record { entry = i; answered = refl; means = λ texts q. h.means texts q ∙ ap value_of same }
  by_answer (Err f) w es h = absurd (not-refused f w es h)

  pub gives : Gives source (value_of t) (outcome source stored entries (reading source text stored entries))
  gives =
      let o : Outcome = outcome source stored entries (reading source text stored entries) in
      by_answer o.answer o.text o.table (read_law source stored entries text)

pub reads_back : ReadsBack
reads_back source v stored entries h room =
    let same = value_same v h.readable in
    let runs : run start 0 (compact v) ≡ Ok (tree_of v) =
    accepted (compact v) (tree_of v) (writes_json v (writable v h.readable)) (fits 0 v h.readable (omega (arith, h.shallow))) (omega (arith, same_size v, h.few)) in
    subst (λ x. Gives source x (outcome source stored entries (reading source (compact v) stored entries))) same (gives source (compact v) stored entries (tree_of v) runs room)

pub reads_within : ReadsWithin
reads_within s t a =
    let g = text_holds a.text a.fits in
    (record { readable = g.readable; shallow = omega (arith, g.deep); few = omega (arith, g.many, a.few) }, g.long)

pub reads_again : ReadsAgain
reads_again source text stored stored_now entries entries_now i h texts same other =
    let a : Accepted text h.tree = subst (Builds text) h.runs (builds text) in
    let w = reads_within text h.tree a in
    let v = value_of h.tree in
    let long = leb-true (length stored + length text) 65535 (and_parts (leb (length stored + length text) 65535) (leb (length entries + 4096) 8192) h.room).0 in
    let room : roomy (compact v) [] [] ≡ true = and_from (leb (0 + length (compact v)) 65535) true (le-leb (0 + length (compact v)) 65535 (omega (arith, w.1))) refl in
    subst (λ x. Gives other x (outcome other [] [] (reading other (compact x) [] []))) (sym (h.means texts same)) (reads_back other v [] [] w.0 room)
