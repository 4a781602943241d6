-- The rest of a text, a step at a time, and that what was there before stays.
use Rattle.std.proofs.Common.{◌≡◌, ℕ, ◌+◌, ◌<◌, ◌≤◌, min, Bool, true, false, cond, List, [], ◌∷◌, ◌++◌, length, get_or, take, drop, Some, None, Ok, Err, Option, sym, ap, ◌∙◌, arith, length-take}
use Rattle.fixed.specs.Listed.{last}
use Rattle.fixed.specs.Room.{extended, fits}
use Rattle.json_values.specs.declared.parts.Source.{Source}
use Rattle.json_values.specs.declared.table.Entry.{Entry}
use Rattle.json_scanner.specs.Bytes.{then}
use Rattle.json_scanner.specs.Machine.{Control, bytes_of, turned, left_with, finish}
use Rattle.json_scanner.specs.declared.modes.Act.{Act}
use Rattle.json_scanner.specs.declared.modes.Act.TheVariants as act
use Rattle.json_scanner.specs.declared.modes.Container.{Container}
use Rattle.json_scanner.specs.declared.modes.Container.TheVariants as container
use Rattle.json_scanner.specs.declared.modes.Fault.{Fault}
use Rattle.json_scanner.specs.declared.modes.Step.{Step}
use Rattle.json_scanner.proofs.Turns.{left_ok, left_err}
use Rattle.json_reader.specs.Building.{Built, acted, built, building, closed_in, ended_with, moved_in}
use Rattle.json_reader.specs.Sifted.{added, picked, sifted}
use Rattle.json_reader.specs.declared.builder.Open.{Open}
use Rattle.std.proofs.lemmas.List.{at_drop_more, at_drop_all, take-append-le}

module _ (source : Source) (s : List ℕ) (i : ℕ) (c d : Control) (m : Built) (lt : i < length s) where
  pub building-next : (x : Step) → (d, Ok x) ≡ left_with c (turned i c (get_or s i 0)) → building source c i (drop i s) m ≡ building source d (i + 1) (drop (i + 1) s) (built source i x m)
  unfolding building
  building-next x e =
      at_drop_more (λ (z : List ℕ). building source c i z m) s i 0 lt
      ∙ ap (λ r. then r (λ y. building source y.0 (i + 1) (drop (i + 1) s) (built source i y.1 m))) (left_ok c d x (turned i c (get_or s i 0)) e)

  pub building_stop : (f : Fault) → (d, Err f) ≡ left_with c (turned i c (get_or s i 0)) → building source c i (drop i s) m ≡ Err f
  unfolding building
  building_stop f e =
      at_drop_more (λ (z : List ℕ). building source c i z m) s i 0 lt
      ∙ ap (λ r. then r (λ y. building source y.0 (i + 1) (drop (i + 1) s) (built source i y.1 m))) (left_err c d f (turned i c (get_or s i 0)) e)

pub building_all : (source : Source) (s : List ℕ) (i : ℕ) (c : Control) (m : Built) → i ≡ length s → building source c i (drop i s) m ≡ then (finish (length s) c) (λ k. Ok (ended_with m k))
unfolding building
building_all source s i c m e =
    at_drop_all (λ (z : List ℕ). building source c i z m) s i (omega arith) ∙ ap (λ n. then (finish n c) (λ k. Ok (ended_with m k))) e

-- ---- what was there stays

module _ {X : Type 0} (old : List X) where
  long_enough : (xs : List X) → take (length old) xs ≡ old → length old ≤ length xs
  long_enough xs h = let n : min (length old) (length xs) ≡ length old = sym (length-take (length old) xs) ∙ ap length h in omega arith

  pub extended_stays : (room : ℕ) (xs more : List X) → take (length old) xs ≡ old → take (length old) (extended room xs more) ≡ old
  extended_stays room xs more h = either (fits room xs more)
    where
      either : (b : Bool) → take (length old) (cond b (xs ++ more) xs) ≡ old
      either true = take-append-le (length old) xs more (long_enough xs h) ∙ h
      either false = h

added_stays : (old : List Entry) (xs es : List Entry) → take (length old) xs ≡ old → take (length old) (added 8192 xs es) ≡ old
unfolding added
added_stays old xs [] h = h
added_stays old xs (e ∷ es) h = added_stays old (extended 8192 xs (e ∷ [])) es (extended_stays old 8192 xs (e ∷ []) h)

moved_stays : (old t : List Entry) (k : Container) (w : List ℕ) (ps : List Entry) (first : ℕ) → take (length old) t ≡ old → take (length old) (moved_in k w ps first t) ≡ old
moved_stays old t container.List w ps first h = extended_stays old 8192 t (drop first ps) h
moved_stays old t container.Object w ps first h = added_stays old t (picked ps (sifted w ps first)) h

module _ (w : List ℕ) (t : List Entry) where
  -- a store held w before, and a table t
  abbrev pub Keeps : Built → Type 0
  Keeps m = (take (length w) m.text ≡ w) × (take (length t) m.table ≡ t)

  closed-keeps : (o : Option Open) (m : Built) → Keeps m → Keeps (closed_in o m)
  closed-keeps None m h = h
  closed-keeps (Some o) m h = (h.0, moved_stays t m.table o.container m.text m.notes.pending o.first h.1)

  pub acted-keeps : (source : Source) (i : ℕ) (a : Act) (m : Built) → Keeps m → Keeps (acted source i a m)
  acted-keeps source i act.Stay m h = h
  acted-keeps source i act.Begin m h = h
  acted-keeps source i (act.Open c) m h = h
  acted-keeps source i act.Close m h = closed-keeps (last m.notes.opens) m h
  acted-keeps source i (act.Add p) m h = (extended_stays w 65535 m.text (bytes_of p) h.0, h.1)
  acted-keeps source i act.Key m h = h
  acted-keeps source i act.Text m h = h
  acted-keeps source i act.Null m h = h
  acted-keeps source i (act.Bool b) m h = h
