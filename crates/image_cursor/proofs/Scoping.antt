-- What the parts of a scope say of its bytes.
use Rattle.std.proofs.Common.{◌≡◌, ℕ, ◌+◌, Bool, true, false, cond, eqb, List, [], ◌∷◌, ◌++◌, length, drop, is_some, Some, None, Option, sym, refl, ap, ◌∙◌, arith, length-append}
use Rattle.image.proofs.Bytes.{tested}
use Rattle.image.proofs.Heads.{command-code}
use Rattle.image.proofs.Laws.{decodes_images}
use Rattle.image.proofs.Opts.{mapped_some}
use Rattle.std.proofs.lemmas.Option.{none-some, same_Some}
use Rattle.image.specs.Commands.{code, command}
use Rattle.image.specs.Decode.{Decoded, decoded, decoded_old, decoded_optional, decoded_scope, ended, run, scope, scope_of, seen, then, whole}
use Rattle.image.specs.Image.{image}
use Rattle.image.specs.Typed.{Octets, OldSelf, Scope, Typed, plain, some}
use Rattle.image.specs.declared.command.Command.{Command}
use Rattle.image.specs.declared.command.Command.TheVariants.{Null, False, True, Int, Uint, Empty, Text, Bytes, Duration, List as ListOf, Map, Present, Own, Old}
use Rattle.image_cursor.specs.Operands.{front_command}
use Rattle.image_cursor.specs.Scopes.{old_at, scope_at, value_at}
use Rattle.image_cursor.specs.Tails.{SameEnd, left}
use Rattle.image_cursor.specs.declared.scope.OldPlace.{OldPlace}
use Rattle.image_cursor.specs.declared.scope.OldPlace.TheVariants.{Plain, Present as PresentAt}
use Rattle.image_cursor.specs.declared.scope.ScopeParts.{ScopeParts}
use Rattle.image_cursor.specs.declared.tail.Tail.{Tail}
use Rattle.std.proofs.lemmas.Bool.{ne_eqb}
use Rattle.std.proofs.lemmas.List.{drop-drop, drop_at}
use Rattle.std.specs.Bool.{then_some}
use Rattle.std.specs.Option.{option_map}

-- ---- a command's byte

front_is : (s r : List ℕ) (c : Command) → Some (c, r) ≡ front_command s → s ≡ code c ∷ r
front_is [] r c e = absurd (none-some (c, r) (sym e))
front_is (b ∷ s) r c e =
    let m = mapped_some (command b) (λ c. (c, s)) (c, r) (sym e) in
    let byte : code m.mid ≡ b = command-code b m.mid m.was in
    let c_is : m.mid ≡ c = ap (λ z. z.0) m.gives in
    let r_is : s ≡ r = ap (λ z. z.1) m.gives in
    cc

abbrev with_rest : List ℕ → Option Command → Option (Command × List ℕ)
with_rest s o = option_map (λ c. (c, s)) o

-- a byte that stands for no command is none of the markers
no_marker : (b : ℕ) (s : List ℕ) (c : Command) → command (code c) ≡ Some c → None ≡ with_rest s (command b) → eqb b (code c) ≡ false
no_marker b s c k e = ne_eqb b (code c) (λ p. none-some (c, s) (e ∙ ap (λ n. with_rest s (command n)) p ∙ ap (with_rest s) k))

-- ---- whole values

ended-value : (t : List ℕ) (v : Typed) → is_some (ended t v) ≡ true → ended t v ≡ Some v
ended-value [] v e = refl
ended-value (b ∷ t) v e = absurd (let z : ⊥ = cc in z)

value_by : (o : Option Decoded) → is_some (then o (λ d. ended d.rest d.value)) ≡ true → then o (λ d. ended d.rest d.value) ≡ option_map (λ (d : Decoded). d.value) o
value_by None e = refl
value_by (Some d) e = ended-value d.rest d.value e

no_whole : {A : Type 0} (o : Option A) → is_some o ≡ false → o ≡ None
no_whole None e = refl
no_whole (Some x) e = absurd (let z : ⊥ = cc in z)

whole_at : (bs s : List ℕ) (i : ℕ) (f : Typed → OldSelf) (p : OldPlace) (t : Bool) → old_at bs p ≡ option_map f (value_at bs i) → t ≡ is_some (whole s) → s ≡ drop i bs → option_map f (whole s) ≡ then (then_some t p) (old_at bs)
whole_at bs s i f p true at h e =
    ap (option_map f) (value_by (decoded s) (sym h)) ∙ ap (λ z. option_map f (option_map (λ d. d.value) (decoded z))) e ∙ sym at
whole_at bs s i f p false at h e = ap (option_map f) (no_whole (whole s) (sym h))

some_mapped : {A B : Type 0} (f : A → B) (o : Option A) → is_some (option_map f o) ≡ is_some o
some_mapped f None = refl
some_mapped f (Some x) = refl

some_if : {A : Type 0} (t : Bool) (x : A) → is_some (then_some t x) ≡ t
some_if true x = refl
some_if false x = refl

-- ---- what is left of the same bytes

from_behind : (bs : List ℕ) (s t : Tail) (front : List ℕ) → s.rest.now ≡ drop s.place bs → SameEnd s t → s.rest.now ≡ front ++ t.rest.now → t.rest.now ≡ drop t.place bs
from_behind bs s t front p e q =
    let n : s.place + length front ≡ t.place = omega (arith, ap length q, length-append front t.rest.now) in
    sym (drop_at front t.rest.now (length front) refl) ∙ ap (drop (length front)) (sym q ∙ p) ∙ drop-drop (length front) s.place bs ∙ ap (λ k. drop k bs) n

pub behind_command : (bs : List ℕ) (s t : Tail) (c : Command) → s.rest.now ≡ drop s.place bs → SameEnd s t → Some (left (c, t)) ≡ front_command s.rest.now → t.rest.now ≡ drop t.place bs
behind_command bs s t c p e v = from_behind bs s t (code c ∷ []) p e (front_is s.rest.now t.rest.now c v)

pub behind_decoded : (bs : List ℕ) (s t : Tail) → Octets s.rest.now → s.rest.now ≡ drop s.place bs → SameEnd s t → Some t.rest.now ≡ option_map (λ (d : Decoded). d.rest) (decoded s.rest.now) → t.rest.now ≡ drop t.place bs
behind_decoded bs s t o p e v =
    let m = mapped_some (decoded s.rest.now) (λ (d : Decoded). d.rest) t.rest.now (sym v) in
    from_behind bs s t (image m.mid.value) p e ((decodes_images.decoded_image s.rest.now m.mid o m.was).1 ∙ ap (λ z. image m.mid.value ++ z) m.gives)

-- ---- oldSelf

no_value : (b : ℕ) (s : List ℕ) → None ≡ with_rest s (command b) → command b ≡ None
no_value b s e = by (command b) refl where
  by : (o : Option Command) → command b ≡ o → command b ≡ None
  by None p = p
  by (Some c) p = absurd (none-some (c, s) (e ∙ ap (with_rest s) p))

whole_none : (b : ℕ) (s : List ℕ) → command b ≡ None → whole (b ∷ s) ≡ None
unfolding decoded run seen
whole_none b s e = rw e refl

pub optional_none : (s : List ℕ) → None ≡ front_command s → decoded_optional s ≡ None
optional_none [] e = refl
optional_none (b ∷ s) e =
    rw (no_marker b s Empty refl e, no_marker b s Present refl e, whole_none b s (no_value b s e)) refl

optional_by : (c : Command) (r : List ℕ) → (c ≡ Empty → ⊥) → (c ≡ Present → ⊥) → decoded_optional (code c ∷ r) ≡ option_map plain (whole (code c ∷ r))
optional_by Null r p q = refl
optional_by False r p q = refl
optional_by True r p q = refl
optional_by Int r p q = refl
optional_by Uint r p q = refl
optional_by Empty r p q = absurd (p refl)
optional_by Text r p q = refl
optional_by Bytes r p q = refl
optional_by Duration r p q = refl
optional_by ListOf r p q = refl
optional_by Map r p q = refl
optional_by Present r p q = absurd (q refl)
optional_by Own r p q = refl
optional_by Old r p q = refl

-- an optional that has a value, which begins behind the marker
pub present_at : (bs : List ℕ) (s t : Tail) (w : Bool) → s.rest.now ≡ drop s.place bs → SameEnd s t → Some (left (Present, t)) ≡ front_command s.rest.now → w ≡ is_some (whole t.rest.now) → decoded_optional s.rest.now ≡ then (then_some w (PresentAt t.place)) (old_at bs)
present_at bs s t w p e v h =
    ap decoded_optional (front_is s.rest.now t.rest.now Present v)
    ∙ whole_at bs t.rest.now t.place some (PresentAt t.place) w refl h (behind_command bs s t Present p e v)

pub present_ok : (s r : List ℕ) (w : Bool) (x : OldPlace) → Some (Present, r) ≡ front_command s → w ≡ is_some (whole r) → is_some (then_some w x) ≡ is_some (decoded_optional s)
present_ok s r w x v h =
    some_if w x ∙ h ∙ sym (some_mapped some (whole r)) ∙ ap is_some (sym (ap decoded_optional (front_is s r Present v)))

-- a value that is no optional's
module _ (s r : List ℕ) (c : Command) (v : Some (c, r) ≡ front_command s) (p : c ≡ Empty → ⊥) (q : c ≡ Present → ⊥) where
  plain_is : decoded_optional s ≡ option_map plain (whole s)
  plain_is =
      let b = front_is s r c v in
      ap decoded_optional b ∙ optional_by c r p q ∙ ap (λ z. option_map plain (whole z)) (sym b)

  pub plain_at : (bs : List ℕ) (i : ℕ) (w : Bool) → w ≡ is_some (whole s) → s ≡ drop i bs → decoded_optional s ≡ then (then_some w (Plain i)) (old_at bs)
  plain_at bs i w h e = plain_is ∙ whole_at bs s i plain (Plain i) w refl h e

  pub plain_ok : (w : Bool) (x : OldPlace) → w ≡ is_some (whole s) → is_some (then_some w x) ≡ is_some (decoded_optional s)
  plain_ok w x h = some_if w x ∙ h ∙ sym (some_mapped plain (whole s)) ∙ ap is_some (sym plain_is)

-- behind the command of oldSelf
pub old_is : (s r : List ℕ) → Some (Old, r) ≡ front_command s → decoded_old s ≡ decoded_optional r
old_is s r v = ap decoded_old (front_is s r Old v)

-- ---- scopes

pub record Scoped (bs : List ℕ) (r : Option ScopeParts) : Type 0 where
  pub scope_is : decoded_scope bs ≡ then r (scope_at bs)
  pub ok : is_some r ≡ is_some (decoded_scope bs)

no_scope : (bs : List ℕ) → decoded_scope bs ≡ None → Scoped bs None
no_scope bs e = record { scope_is = e; ok = ap is_some (sym e) }

abbrev behind : Option Decoded → Option Scope
behind o = then o (λ d. option_map (scope d.value) (decoded_old d.rest))

of_octets : (bs : List ℕ) → Octets bs → decoded_scope bs ≡ scope_of bs
unfolding decoded_scope
of_octets bs o = ap (λ t. cond t (scope_of bs) None) (tested bs o)

none_by : (bs : List ℕ) → None ≡ front_command bs → scope_of bs ≡ None
none_by [] e = refl
none_by (b ∷ s) e = ap (λ t. cond t (behind (decoded s)) None) (no_marker b s Own refl e)

other_by : (c : Command) (r : List ℕ) → (c ≡ Own → ⊥) → scope_of (code c ∷ r) ≡ None
other_by Null r p = refl
other_by False r p = refl
other_by True r p = refl
other_by Int r p = refl
other_by Uint r p = refl
other_by Empty r p = refl
other_by Text r p = refl
other_by Bytes r p = refl
other_by Duration r p = refl
other_by ListOf r p = refl
other_by Map r p = refl
other_by Present r p = refl
other_by Own r p = absurd (p refl)
other_by Old r p = refl

behind_none : (o : Option Decoded) → None ≡ option_map (λ (d : Decoded). d.rest) o → behind o ≡ None
behind_none None e = refl
behind_none (Some d) e = absurd (none-some d.rest e)

behind_some : (o : Option Decoded) (t : List ℕ) → Some t ≡ option_map (λ (d : Decoded). d.rest) o → behind o ≡ then (option_map (λ (d : Decoded). d.value) o) (λ v. option_map (scope v) (decoded_old t))
behind_some None t e = absurd (none-some t (sym e))
behind_some (Some d) t e = ap (λ s. option_map (scope d.value) (decoded_old s)) (sym (same_Some t d.rest e))

both_some : (o : Option Decoded) (t : List ℕ) (x : Option OldSelf) → Some t ≡ option_map (λ (d : Decoded). d.rest) o → true ≡ is_some x → true ≡ is_some (then (option_map (λ (d : Decoded). d.value) o) (λ v. option_map (scope v) x))
both_some None t x e f = absurd (none-some t (sym e))
both_some (Some d) t None e f = f
both_some (Some d) t (Some y) e f = refl

none_then : (o : Option Typed) → then o (λ v. option_map (scope v) None) ≡ None
none_then None = refl
none_then (Some v) = refl

module _ (bs : List ℕ) (o : Octets bs) where
  pub scope_none : None ≡ front_command bs → Scoped bs None
  scope_none e = no_scope bs (of_octets bs o ∙ none_by bs e)

  pub scope_other : (c : Command) (r : List ℕ) → (c ≡ Own → ⊥) → Some (c, r) ≡ front_command bs → Scoped bs None
  scope_other c r n e = no_scope bs (of_octets bs o ∙ ap scope_of (front_is bs r c e) ∙ other_by c r n)

  module _ (all own : Tail) (rest : all.rest.now ≡ bs) (place : all.place ≡ 0) (end : SameEnd all own) (e : Some (left (Own, own)) ≡ front_command bs) where
    self_is : decoded_scope bs ≡ behind (decoded own.rest.now)
    self_is = of_octets bs o ∙ ap scope_of (front_is bs own.rest.now Own e)

    own_from : own.rest.now ≡ drop own.place bs
    own_from = behind_command bs all own Own (rest ∙ ap (λ i. drop i bs) (sym place)) end (e ∙ ap front_command (sym rest))

    pub scope_no_self : None ≡ option_map (λ (d : Decoded). d.rest) (decoded own.rest.now) → Scoped bs None
    scope_no_self n = no_scope bs (self_is ∙ behind_none (decoded own.rest.now) n)

    module _ (past : Tail) (inside : Octets own.rest.now) (ends : SameEnd own past) (q : Some past.rest.now ≡ option_map (λ (d : Decoded). d.rest) (decoded own.rest.now)) where
      all_is : decoded_scope bs ≡ then (value_at bs own.place) (λ v. option_map (scope v) (decoded_old past.rest.now))
      all_is =
          self_is ∙ behind_some (decoded own.rest.now) past.rest.now q
          ∙ ap (λ z. then (option_map (λ (d : Decoded). d.value) (decoded z)) (λ v. option_map (scope v) (decoded_old past.rest.now))) own_from

      pub scope_no_old : false ≡ is_some (decoded_old past.rest.now) → Scoped bs None
      scope_no_old n = no_scope bs (all_is ∙ ap (λ x. then (value_at bs own.place) (λ v. option_map (scope v) x)) (no_whole (decoded_old past.rest.now) (sym n)) ∙ none_then (value_at bs own.place))

      pub scope_all : (old : OldPlace) → ((bytes : List ℕ) → past.rest.now ≡ drop past.place bytes → decoded_old past.rest.now ≡ old_at bytes old) → true ≡ is_some (decoded_old past.rest.now) → Scoped bs (Some (record { own = own.place; old = old }))
      scope_all old is held =
          let old_is = is bs (behind_decoded bs own past inside own_from ends q) in
          record {
            scope_is = all_is ∙ ap (λ x. then (value_at bs own.place) (λ v. option_map (scope v) x)) old_is;
            ok = both_some (decoded own.rest.now) past.rest.now (decoded_old past.rest.now) q held ∙ ap is_some (sym (self_is ∙ behind_some (decoded own.rest.now) past.rest.now q));
          }
