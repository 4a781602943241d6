-- The laws of images.
use Rattle.std.proofs.Common.{◌≡◌, ℕ, ◌≤◌, Bool, true, false, cond, eqb, List, [], ◌∷◌, ◌++◌, length, Some, None, sym, refl, ap, ◌∙◌, subst, append-nil, arith, length-append}
use Rattle.image.proofs.Bytes.{image_begins, scope-octets, tested, untested}
use Rattle.image.proofs.Opts.{if_then, mapped_some, then_some}
use Rattle.std.proofs.lemmas.Option.{none-some, same_Some}
use Rattle.image.proofs.Runs.{Written, octets_behind, run_reads, run-written}
use Rattle.image.specs.Decode.{Decoded, decoded, decoded_old, decoded_optional, decoded_scope, ended, octets, only, run, running, scope, scope_of, then, whole}
use Rattle.image.specs.Image.{image, old_image, scope_image}
use Rattle.image.specs.Laws.{Decodes, DecodesScopes, PrefixCode}
use Rattle.image.specs.Typed.{Items, Octets, OldSelf, Proper, ProperOld, ProperScope, Scope, Typed, absent, empty, item, no_items, plain, some}
use Rattle.std.proofs.lemmas.Bool.{eqb-true}
use Rattle.std.specs.Option.{option_map}

abbrev decodes : Typed → List ℕ → Decoded
decodes v r = record { value = v; rest = r }

pub one_run : (v : Typed) (r : List ℕ) → Proper v → run 1 (length (image v ++ r)) (image v ++ r) ≡ Some (running r (item v no_items))
unfolding image
one_run v r p =
    let e : image v ++ [] ≡ image v = append-nil (image v) in
    let long : length (image v ++ []) ≤ length (image v ++ r) = omega (arith, ap length e, length-append (image v) r) in
    ap (λ t. run 1 (length (image v ++ r)) (t ++ r)) (sym e) ∙ run_reads (length (image v ++ r)) 1 (item v no_items) r refl (p, tt) long

pub image_decoded : (v : Typed) (r : List ℕ) → Proper v → decoded (image v ++ r) ≡ Some (decodes v r)
unfolding decoded
image_decoded v r p = ap (λ o. then o (λ q. only q.rest q.values)) (one_run v r p)

-- what one value's run is
one_written : (s r : List ℕ) (vs : Items) (d : Decoded) → Written 1 s (running r vs) → only r vs ≡ Some d → Proper d.value × (s ≡ image d.value ++ d.rest)
unfolding image
one_written s r no_items d w e = absurd (none-some d e)
one_written s r (item v no_items) d w e =
    let f : decodes v r ≡ d = same_Some (decodes v r) d e in
    let P : Decoded → Type 0 = λ z. Proper z.value × (s ≡ image z.value ++ z.rest) in
    let was : P (decodes v r) = (w.proper.0, w.bytes_are ∙ ap (λ t. t ++ r) (append-nil (image v))) in
    subst P f was
one_written s r (item v (item u us)) d w e = absurd (let z : ⊥ = omega (arith, w.count) in z)

pub decoded_image : (s : List ℕ) (d : Decoded) → Octets s → decoded s ≡ Some d → Proper d.value × (s ≡ image d.value ++ d.rest)
unfolding decoded
decoded_image s d o e =
    let t = then_some (run 1 (length s) s) (λ r. only r.rest r.values) d e in
    one_written s t.mid.rest t.mid.values d (run-written 1 (length s) s t.mid o t.was) t.gives

pub decodes_images : Decodes
decodes_images = record { image_decoded = image_decoded; decoded_image = decoded_image }

pub prefix_code : PrefixCode
prefix_code v w r s p q e =
    let f : decodes v r ≡ decodes w s = same_Some (decodes v r) (decodes w s) (sym (image_decoded v r p) ∙ ap decoded e ∙ image_decoded w s q) in
    (ap (λ d. d.value) f, ap (λ d. d.rest) f)

-- ---- scopes

whole_image : (v : Typed) → Proper v → whole (image v) ≡ Some v
whole_image v p = ap (λ o. then o (λ d. ended d.rest d.value)) (ap decoded (sym (append-nil (image v))) ∙ image_decoded v [] p)

ended_is : {A : Type 0} (s : List ℕ) (x y : A) → ended s x ≡ Some y → (s ≡ []) × (x ≡ y)
ended_is [] x y e = (refl, same_Some x y e)
ended_is (b ∷ s) x y e = absurd (none-some y e)

whole_is : (s : List ℕ) (v : Typed) → Octets s → whole s ≡ Some v → Proper v × (image v ≡ s)
whole_is s v o e =
    let t = then_some (decoded s) (λ d. ended d.rest d.value) v e in
    let w = decoded_image s t.mid o t.was in
    let n = ended_is t.mid.rest t.mid.value v t.gives in
    (subst Proper n.1 w.0, sym (w.1 ∙ ap (λ r. image t.mid.value ++ r) n.0 ∙ append-nil (image t.mid.value) ∙ ap image n.1))

plain_image : (v : Typed) → Proper v → decoded_optional (image v) ≡ Some (plain v)
plain_image v p =
    let b = image_begins v in
    ap decoded_optional b.bytes_are
    ∙ ap (λ t. cond t (ended b.behind empty) (cond (eqb b.byte 0x0D) (option_map some (whole b.behind)) (option_map plain (whole (b.byte ∷ b.behind))))) b.no_empty
    ∙ ap (λ t. cond t (option_map some (whole b.behind)) (option_map plain (whole (b.byte ∷ b.behind)))) b.no_present
    ∙ ap (λ s. option_map plain (whole s)) (sym b.bytes_are)
    ∙ ap (option_map plain) (whole_image v p)

old_image-decoded : (o : OldSelf) → ProperOld o → decoded_old (old_image o) ≡ Some o
old_image-decoded absent p = refl
old_image-decoded (plain v) p = plain_image v p
old_image-decoded empty p = refl
old_image-decoded (some v) p = ap (option_map some) (whole_image v p)

pub scope_decoded : (s : Scope) → ProperScope s → decoded_scope (scope_image s) ≡ Some s
unfolding decoded_scope
scope_decoded s p =
    ap (λ t. cond t (scope_of (scope_image s)) None) (tested (scope_image s) (scope-octets s p))
    ∙ ap (λ o. then o (λ d. option_map (scope d.value) (decoded_old d.rest))) (image_decoded s.self (old_image s.old) p.0)
    ∙ ap (option_map (scope s.self)) (old_image-decoded s.old p.1)

-- where oldSelf was decoded, its image stands
abbrev OldIs : List ℕ → OldSelf → Type 0
OldIs s o = ProperOld o × (old_image o ≡ s)

optional_cases : (b : ℕ) (s : List ℕ) (o : OldSelf) (e p : Bool) → eqb b 0x05 ≡ e → eqb b 0x0D ≡ p → Octets (b ∷ s) → cond e (ended s empty) (cond p (option_map some (whole s)) (option_map plain (whole (b ∷ s)))) ≡ Some o → OldIs (0x11 ∷ (b ∷ s)) o
optional_cases b s o true p f g q h =
    let n = ended_is s empty o h in
    let was : OldIs (0x11 ∷ (b ∷ s)) empty = (tt, ap (λ k. 0x11 ∷ (k ∷ [])) (sym (eqb-true b 0x05 f)) ∙ ap (λ t. 0x11 ∷ (b ∷ t)) (sym n.0)) in
    subst (OldIs (0x11 ∷ (b ∷ s))) n.1 was
optional_cases b s o false true f g q h =
    let m = mapped_some (whole s) some o h in
    let w = whole_is s m.mid q.1 m.was in
    let was : OldIs (0x11 ∷ (b ∷ s)) (some m.mid) = (w.0, ap (λ k. 0x11 ∷ (k ∷ image m.mid)) (sym (eqb-true b 0x0D g)) ∙ ap (λ t. 0x11 ∷ (b ∷ t)) w.1) in
    subst (OldIs (0x11 ∷ (b ∷ s))) m.gives was
optional_cases b s o false false f g q h =
    let m = mapped_some (whole (b ∷ s)) plain o h in
    let w = whole_is (b ∷ s) m.mid q m.was in
    let was : OldIs (0x11 ∷ (b ∷ s)) (plain m.mid) = (w.0, ap (λ t. 0x11 ∷ t) w.1) in
    subst (OldIs (0x11 ∷ (b ∷ s))) m.gives was

optional_is : (s : List ℕ) (o : OldSelf) → Octets s → decoded_optional s ≡ Some o → OldIs (0x11 ∷ s) o
optional_is [] o q e = absurd (none-some o e)
optional_is (b ∷ s) o q e = optional_cases b s o (eqb b 0x05) (eqb b 0x0D) refl refl q e

old_is : (s : List ℕ) (o : OldSelf) → Octets s → decoded_old s ≡ Some o → OldIs s o
old_is [] o q e =
    let was : OldIs [] absent = (tt, refl) in
    subst (OldIs []) (same_Some absent o e) was
old_is (b ∷ s) o q e =
    let t = if_then (eqb b 0x11) (decoded_optional s) o e in
    let w = optional_is s o q.1 t.1 in
    (w.0, w.1 ∙ ap (λ k. k ∷ s) (sym (eqb-true b 0x11 t.0)))

abbrev ScopeIs : List ℕ → Scope → Type 0
ScopeIs bs s = ProperScope s × (scope_image s ≡ bs)

scope_of_is : (bs : List ℕ) (s : Scope) → Octets bs → scope_of bs ≡ Some s → ScopeIs bs s
scope_of_is [] s q e = absurd (none-some s e)
scope_of_is (b ∷ bs) s q e =
    let t = if_then (eqb b 0x10) (then (decoded bs) (λ d. option_map (scope d.value) (decoded_old d.rest))) s e in
    let d = then_some (decoded bs) (λ d. option_map (scope d.value) (decoded_old d.rest)) s t.1 in
    let v = d.mid.value in
    let r = d.mid.rest in
    let w = decoded_image bs d.mid q.1 d.was in
    let m = mapped_some (decoded_old r) (scope v) s d.gives in
    let o = old_is r m.mid (octets_behind bs (image v) r w.1 q.1) m.was in
    let bytes_are : 0x10 ∷ (image v ++ old_image m.mid) ≡ b ∷ bs = ap (λ z. 0x10 ∷ (image v ++ z)) o.1 ∙ ap (λ z. 0x10 ∷ z) (sym w.1) ∙ ap (λ k. k ∷ bs) (sym (eqb-true b 0x10 t.0)) in
    let was : ScopeIs (b ∷ bs) (scope v m.mid) = ((w.0, o.0), bytes_are) in
    subst (ScopeIs (b ∷ bs)) m.gives was

pub decoded_is_scope : (bs : List ℕ) (s : Scope) → decoded_scope bs ≡ Some s → ProperScope s × (scope_image s ≡ bs)
unfolding decoded_scope
decoded_is_scope bs s e =
    let t = if_then (octets bs) (scope_of bs) s e in
    scope_of_is bs s (untested bs t.0) t.1

pub decodes_scopes : DecodesScopes
decodes_scopes = record { scope_decoded = scope_decoded; decoded_is_scope = decoded_is_scope }
