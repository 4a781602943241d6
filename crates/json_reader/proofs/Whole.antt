-- A whole text.
use Rattle.std.proofs.Common.{◌≡◌, ℕ, ◌+◌, ◌≤◌, Bool, true, false, cond, leb, List, [], ◌∷◌, ◌++◌, length, get_or, take, drop, Some, Ok, Err, Option, Result, sym, refl, ap, ◌∙◌, subst, inl, inr, arith}
use Rattle.json_values.proofs.Rows.{rows_of-length, rows_push, meanings_stay}
use Rattle.json_values.specs.Meaning.{Row, no_row, row_of, rows_of, value_at}
use Rattle.json_values.specs.declared.parts.Source.{Source}
use Rattle.json_values.specs.declared.table.Entry.{Entry}
use Rattle.json_scanner.specs.Grammar.{Tree}
use Rattle.json_scanner.specs.Bytes.{then}
use Rattle.json_scanner.specs.Machine.{Control, run, start, turned, finish, fresh}
use Rattle.json_scanner.specs.declared.modes.Fault.{Fault as Flaw}
use Rattle.json_scanner.specs.declared.modes.Fault.TheVariants as flaw
use Rattle.json_scanner.specs.declared.modes.Numeral.{Numeral}
use Rattle.json_scanner.specs.declared.modes.Step.{Step}
use Rattle.json_reader.proofs.Builds.{Keeps, acted-keeps, extended_stays}
use Rattle.json_reader.proofs.Holding.{Holds, extended_in}
use Rattle.json_reader.proofs.Running.{Finished, Agrees, run_agrees}
use Rattle.json_reader.specs.Building.{Built, built, building, ended_with}
use Rattle.json_reader.specs.Law.{Taken, ReadsAs}
use Rattle.json_reader.specs.declared.fault.Fault.{Fault}
use Rattle.json_reader.specs.Reading.{roomy, beginning, reading, rooted, outcome}
use Rattle.std.proofs.lemmas.List.{append-nil, drop_all, take_all, take-append-drop, get_or_push, length_push}
use Rattle.std.proofs.lemmas.Bool.{and_parts, leb-true}
use Rattle.std.specs.List.{slice_get}

-- ---- what was there stays

module _ (source : Source) (w : List ℕ) (t : List Entry) where
  abbrev Kept : Result Built Flaw → Type 0
  Kept (Ok m) = Keeps w t m
  Kept (Err f) = Unit {0}

  building_keeps : (s : List ℕ) (c : Control) (i : ℕ) (m : Built) → Keeps w t m → Kept (building source c i s m)
  unfolding building
  building_keeps [] c i m h = by (finish i c)
    where
      by : (x : Result (Option Numeral) Flaw) → Kept (then x (λ k. Ok (ended_with m k)))
      by (Ok k) = h
      by (Err f) = tt
  building_keeps (b ∷ s) c i m h = by (turned i c b) (λ c m h. building_keeps s c (i + 1) m h)
    where
      by : (x : Result (Control × Step) Flaw) → ((c : Control) (m : Built) → Keeps w t m → Kept (building source c (i + 1) s m)) → Kept (then x (λ y. building source y.0 (i + 1) s (built source i y.1 m)))
      by (Ok y) next = next y.0 (built source i y.1 m) (acted-keeps w t source i y.1.act (ended_with m y.1.number) h)
      by (Err f) next = tt

  -- before the first byte
  start-holds : Holds source (length w) (length t) 0 (beginning w t) start
  start-holds = record {
    core = record { rows = λ texts ov later. refl; key = λ texts ov. refl; opens = tt };
    fit = tt;
    around = tt;
    begun = omega arith;
    chars = drop_all (length w) w (omega arith);
    base = omega arith;
    counts = omega arith;
    few = omega arith;
    size = omega arith;
  }

  module _ (text : List ℕ) (room : roomy text w t ≡ true) where
    wide : length w + length text ≤ 65535
    wide = leb-true (length w + length text) 65535 (and_parts (leb (length w + length text) 65535) (leb (length t + 4096) 8192) room).0

    tall : length t + 4096 ≤ 8192
    tall = leb-true (length t + 4096) 8192 (and_parts (leb (length w + length text) 65535) (leb (length t + 4096) 8192) room).1

    taken : (m : Built) (v : Tree) → run start 0 text ≡ Ok v → Finished source (length t) m v → Keeps w t m → Taken source text w t (length m.table) m.text (rooted (slice_get m.notes.pending 0) m.table)
    taken m v e f k =
        let x : Entry = f.0 in
        let root : slice_get m.notes.pending 0 ≡ Some x = ap (λ (z : List Entry). slice_get z 0) f.1 in
        let fits : length m.table + 1 ≤ 8192 = omega (arith, f.3, tall) in
        let grown : rooted (slice_get m.notes.pending 0) m.table ≡ m.table ++ x ∷ [] = ap (λ (o : Option Entry). rooted o m.table) root ∙ extended_in 8192 m.table (x ∷ []) fits in
        let kept : take (length t) (rooted (slice_get m.notes.pending 0) m.table) ≡ t = ap (λ (o : Option Entry). take (length t) (rooted o m.table)) root ∙ extended_stays t 8192 m.table (x ∷ []) k.1 in
        record {
          tree = v;
          room = room;
          runs = e;
          last = sym (ap length grown ∙ length_push m.table x);
          means = λ texts same.
              ap (λ (z : List Entry). value_at texts z (length m.table)) grown
              ∙ (ap (λ (z : List Row). (get_or z (length m.table) no_row).value) (rows_push texts m.table x)
              ∙ (ap (λ (r : Row). r.value) (get_or_push (rows_of texts m.table) (row_of texts (rows_of texts m.table) x) no_row (length m.table) (rows_of-length texts m.table))
              ∙ f.2 texts ([], same ∙ sym (append-nil m.text))));
          text_stays = k.0;
          table_stays = kept;
          old_stays = λ before after g inside j lt.
              ap (λ (z : List Entry). value_at after z j) (sym (take-append-drop (length t) (rooted (slice_get m.notes.pending 0) m.table)) ∙ ap (λ (z : List Entry). z ++ drop (length t) (rooted (slice_get m.notes.pending 0) m.table)) kept)
              ∙ (meanings_stay.table_grows after t (drop (length t) (rooted (slice_get m.notes.pending 0) m.table)) j lt
              ∙ meanings_stay.texts_grow before after t g inside j);
        }

    roomy_law : (x : Result Built Flaw) (y : Result Tree Flaw) → run start 0 text ≡ y → Agrees source (length t) x y → Kept x → ReadsAs source text w t (outcome source w t x).answer (outcome source w t x).text (outcome source w t x).table
    roomy_law (Ok m) (Ok v) e g k = taken m v e g k
    roomy_law (Ok m) (Err f) e g k = absurd g
    roomy_law (Err f) (Ok v) e g k = absurd g
    roomy_law (Err f) (Err h) e g k = record { whose = refl; why = inl (room, e ∙ ap Err (sym g)); same_text = refl; same_table = refl }

  pub read_law : (text : List ℕ) → ReadsAs source text w t (outcome source w t (reading source text w t)).answer (outcome source w t (reading source text w t)).text (outcome source w t (reading source text w t)).table
  read_law text = by (roomy text w t) refl
    where
      by : (r : Bool) → roomy text w t ≡ r → ReadsAs source text w t (outcome source w t (cond r (building source fresh 0 text (beginning w t)) (Err (flaw.Crowded 0)))).answer (outcome source w t (cond r (building source fresh 0 text (beginning w t)) (Err (flaw.Crowded 0)))).text (outcome source w t (cond r (building source fresh 0 text (beginning w t)) (Err (flaw.Crowded 0)))).table
      by true e =
          roomy_law text e (building source fresh 0 text (beginning w t)) (run start 0 text) refl
          (run_agrees source (length w) (length t) (tall text e) text 0 (beginning w t) start (omega (arith, wide text e)) start-holds)
          (building_keeps text fresh 0 (beginning w t) (take_all (length w) w (omega arith), take_all (length t) t (omega arith)))
      by false e = record { whose = refl; why = inr (e, refl); same_text = refl; same_table = refl }

  -- the same of what was read, by its parts
  pub law_by : (text : List ℕ) (r : Result ℕ Fault) (w1 : List ℕ) (t1 : List Entry) → r ≡ (outcome source w t (reading source text w t)).answer → w1 ≡ (outcome source w t (reading source text w t)).text → t1 ≡ (outcome source w t (reading source text w t)).table → ReadsAs source text w t r w1 t1
  law_by text r w1 t1 a b c =
      subst (λ (z : Result ℕ Fault). ReadsAs source text w t z w1 t1) (sym a)
      (subst (λ (z : List ℕ). ReadsAs source text w t (outcome source w t (reading source text w t)).answer z t1) (sym b)
      (subst (λ (z : List Entry). ReadsAs source text w t (outcome source w t (reading source text w t)).answer (outcome source w t (reading source text w t)).text z) (sym c) (read_law text)))
