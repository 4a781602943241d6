-- What a move opens or begins has room.
use Rattle.std.proofs.Common.{◌≡◌, ℕ, eqb, leb, Some, None, Ok, Err, Option, Result, sym, subst}
use Rattle.std.specs.Char.{is_ascii_digit}
use Rattle.std.proofs.lemmas.Bool.{cond_both, leb-false}
use Rattle.json_scanner.specs.declared.modes.Container.{Container}
use Rattle.json_scanner.specs.declared.modes.Container.TheVariants as container
use Rattle.json_scanner.specs.declared.modes.Role.{Role}
use Rattle.json_scanner.specs.declared.modes.Role.TheVariants as role
use Rattle.json_scanner.specs.declared.modes.Piece.{Piece}
use Rattle.json_scanner.specs.declared.modes.Word.{Word}
use Rattle.json_scanner.specs.declared.modes.Word.TheVariants as word
use Rattle.json_scanner.specs.declared.modes.NumberError.{NumberError}
use Rattle.json_scanner.specs.declared.modes.NumberError.TheVariants as number_error
use Rattle.json_scanner.specs.declared.modes.Inside.{Inside}
use Rattle.json_scanner.specs.declared.modes.Mode.{Mode}
use Rattle.json_scanner.specs.declared.modes.Mode.TheVariants as mode
use Rattle.json_scanner.specs.declared.modes.Figures.{Figures}
use Rattle.json_scanner.specs.declared.modes.Move.{Move}
use Rattle.json_scanner.specs.declared.modes.Around.{Around}
use Rattle.json_scanner.specs.Grammar.{white}
use Rattle.json_scanner.specs.Bytes.{Moved, Spelling, goes, moved, begun, opening, beginning, keyed, followed, judged, figured, spelled, noted, act_of, quoted, closing, spelling, letter}
use Rattle.json_scanner.specs.Holds.{Room, Counts}

module _ (a : Around) where
  abbrev pub Roomy : Moved → Type 0
  Roomy (Ok m) = Room m.act a.depth × Counts m.act a.values
  Roomy (Err f) = Unit {0}

  opening-roomy : (m : Mode) (c : Container) → Roomy (opening a m c)
  opening-roomy m c = cond_both (leb 200 a.depth) _ _ Roomy (λ _. tt) (λ d. cond_both (leb 4096 a.values) _ _ Roomy (λ _. tt) (λ v. (leb-false 200 a.depth d, leb-false 4096 a.values v)))

  beginning-roomy : (m : Mode) → Roomy (beginning a m)
  beginning-roomy m = cond_both (leb 4096 a.values) _ _ Roomy (λ _. tt) (λ v. (tt, leb-false 4096 a.values v))

  begun-roomy : (m : Mode) (b : ℕ) → Roomy (begun m a b)
  begun-roomy m b =
      cond_both (white b) _ _ Roomy (λ _. (tt, tt))
      (λ _. cond_both (eqb b 91) _ _ Roomy (λ _. opening-roomy mode.First container.List)
      (λ _. cond_both (eqb b 123) _ _ Roomy (λ _. opening-roomy mode.FirstKey container.Object)
      (λ _. cond_both (eqb b 45) _ _ Roomy (λ _. (tt, tt))
      (λ _. cond_both (is_ascii_digit b) _ _ Roomy (λ _. (tt, tt))
      (λ _. cond_both (eqb b 34) _ _ Roomy (λ _. beginning-roomy _)
      (λ _. cond_both (eqb b 110) _ _ Roomy (λ _. beginning-roomy _)
      (λ _. cond_both (eqb b 116) _ _ Roomy (λ _. beginning-roomy _)
      (λ _. cond_both (eqb b 102) _ _ Roomy (λ _. beginning-roomy _) (λ _. tt)))))))))

  keyed-roomy : (m : Mode) (i b : ℕ) → Roomy (keyed m i b)
  keyed-roomy m i b = cond_both (white b) _ _ Roomy (λ _. (tt, tt)) (λ _. cond_both (eqb b 34) _ _ Roomy (λ _. (tt, tt)) (λ _. tt))

  followed-roomy : (o : Option Container) (i b : ℕ) → Roomy (followed o i b)
  followed-roomy None i b = tt
  followed-roomy (Some container.List) i b = cond_both (eqb b 44) _ _ Roomy (λ _. (tt, tt)) (λ _. cond_both (eqb b 93) _ _ Roomy (λ _. (tt, tt)) (λ _. tt))
  followed-roomy (Some container.Object) i b = cond_both (eqb b 44) _ _ Roomy (λ _. (tt, tt)) (λ _. cond_both (eqb b 125) _ _ Roomy (λ _. (tt, tt)) (λ _. tt))

  word_roomy : (w : Word) → Roomy (Ok (spelling w))
  word_roomy word.N = (tt, tt)
  word_roomy word.Nu = (tt, tt)
  word_roomy word.Nul = (tt, tt)
  word_roomy word.T = (tt, tt)
  word_roomy word.Tr = (tt, tt)
  word_roomy word.Tru = (tt, tt)
  word_roomy word.F = (tt, tt)
  word_roomy word.Fa = (tt, tt)
  word_roomy word.Fal = (tt, tt)
  word_roomy word.Fals = (tt, tt)

  judged-roomy : (v : Result Figures NumberError) (n from i : ℕ) → Roomy (judged v n from i)
  judged-roomy (Ok f) n from i = (tt, tt)
  judged-roomy (Err number_error.Unfit) n from i = tt
  judged-roomy (Err number_error.Broken) n from i = tt

  quoted-roomy : (r : Role) → Roomy (Ok (quoted r))
  quoted-roomy role.Key = (tt, tt)
  quoted-roomy role.Value = (tt, tt)

  piece_roomy : (x : Inside) (r : Role) (p : Option Piece) → Roomy (goes (mode.Text r x) (act_of p))
  piece_roomy x r None = (tt, tt)
  piece_roomy x r (Some p) = (tt, tt)

  noted-roomy : (r : Role) (s : Spelling) (i : ℕ) → Roomy (noted r s i)
  noted-roomy r (Some x) i = piece_roomy x.at r x.piece
  noted-roomy r None i = tt

  pub moved-roomy : (m : Mode) (b : ℕ) → Roomy (moved m a b)
  moved-roomy mode.Want b = begun-roomy mode.Want b
  moved-roomy mode.First b = cond_both (eqb b 93) _ _ Roomy (λ _. (tt, tt)) (λ _. begun-roomy mode.First b)
  moved-roomy mode.FirstKey b = cond_both (eqb b 125) _ _ Roomy (λ _. (tt, tt)) (λ _. keyed-roomy mode.FirstKey a.place b)
  moved-roomy mode.NextKey b = keyed-roomy mode.NextKey a.place b
  moved-roomy mode.Colon b = cond_both (white b) _ _ Roomy (λ _. (tt, tt)) (λ _. cond_both (eqb b 58) _ _ Roomy (λ _. (tt, tt)) (λ _. tt))
  moved-roomy mode.After b = cond_both (white b) _ _ Roomy (λ _. (tt, tt)) (λ _. followed-roomy a.inner a.place b)
  moved-roomy (mode.Word w) b = cond_both (eqb b (letter w)) _ _ Roomy (λ _. word_roomy w) (λ _. tt)
  moved-roomy (mode.Number f from) b = judged-roomy (figured f b) a.values from a.place
  moved-roomy (mode.Text r x) b = cond_both (closing x b) _ _ Roomy (λ _. quoted-roomy r) (λ _. noted-roomy r (spelled x b) a.place)

  pub room_of : (m : Mode) (b : ℕ) (x : Move) → Ok x ≡ moved m a b → Room x.act a.depth × Counts x.act a.values
  room_of m b x e = subst Roomy (sym e) (moved-roomy m b)
