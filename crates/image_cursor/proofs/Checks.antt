-- The check on the way over values passes exactly what is decoded.
use Rattle.std.proofs.Common.{◌≡◌, ℕ, zero, suc, ◌+◌, ◌*◌, Bool, true, false, cond, ◌&&◌, List, ◌++◌, length, is_some, Some, None, Option, sym, refl, ap, ◌∙◌, append_assoc, arith}
use Rattle.image.proofs.Heads.{head_image, head_written}
use Rattle.image.proofs.Rows.{text_is}
use Rattle.image.proofs.Runs.{Written, inner, octets_behind, run-written}
use Rattle.image.specs.Decode.{Decoded, Head, Run, Seen, above, decoded, first, gathered, items, later, lone, members, only, paired, paired_value, parts, run, running, seen, text_of, then}
use Rattle.image.specs.Image.{image, items_image}
use Rattle.image.specs.Typed.{Items, Members, Octets, Proper, ProperItems, Typed, item, items_count, map, member, no_items}
use Rattle.image_cursor.proofs.Images.{seen_image, skipped_image, text_of_head}
use Rattle.image_cursor.specs.Checking.{holds, keyed, ordered}
use Rattle.image_cursor.specs.Walking.{Keyed, head_text, key_seen, past, skipped, walk}
use Rattle.std.specs.Option.{option_map}

-- ---- members in order are those that pair

abbrev key_at : List ℕ → Option (List ℕ) → Option Keyed
key_at r o = then o (λ k. Some (record { key = k; rest = r }))

pub key_of_image : (v : Typed) (t : List ℕ) → Proper v → key_seen (image v ++ t) ≡ key_at (items_image (inner v) ++ t) (text_of v)
key_of_image v t p =
    ap (λ o. then o (λ c. then (head_text c.head) (λ k. Some (record { key = k; rest = c.rest })))) (seen_image v t p)
    ∙ ap (key_at (items_image (inner v) ++ t)) (text_of_head v)

-- a text has nothing within
text_rest : (v : Typed) (k t : List ℕ) → text_of v ≡ Some k → items_image (inner v) ++ t ≡ t
unfolding image
text_rest v k t e = ap (λ z. items_image (inner z) ++ t) (text_is v k e)

both_tests : (t : Bool) (o : Option Members) (k : List ℕ) (v : Typed) → (t && is_some o) ≡ is_some (cond t (option_map (member k v) o) None)
both_tests true None k v = refl
both_tests true (Some ms) k v = refl
both_tests false o k v = refl

abbrev rest_holds : ℕ → Option (List ℕ) → Keyed → Bool
rest_holds n before k = above before k.key && holds (skipped k.rest) (ordered n (Some k.key))

-- one member more
one_member : (n : ℕ) (before o : Option (List ℕ)) (a b : Typed) (us : Items) (t : List ℕ) (xs : Items) → Proper b → text_of a ≡ o → ((key : List ℕ) → ordered n (Some key) t ≡ is_some (paired (Some key) xs)) → holds (key_at (items_image (inner a) ++ (image b ++ t)) o) (rest_holds n before) ≡ is_some (paired_value before o (item b xs))
unfolding paired
one_member n before None a b us t xs p e ih = refl
one_member n before (Some key) a b us t xs p e ih =
    ap (λ z. above before key && holds (skipped z) (ordered n (Some key))) (text_rest a key (image b ++ t) e)
    ∙ ap (λ o. above before key && holds o (ordered n (Some key))) (skipped_image b t p)
    ∙ ap (λ z. above before key && z) (ih key)
    ∙ both_tests (above before key) (paired (Some key) xs) key b

pub ordered-paired : (n k : ℕ) (before : Option (List ℕ)) (us : Items) (r : List ℕ) → ProperItems us → items_count us ≡ 2 * n + k → ordered n before (items_image us ++ r) ≡ is_some (paired before (first (2 * n) us))
unfolding ordered paired first image
ordered-paired zero k before us r p e = refl
ordered-paired (suc n) k before no_items r p e = absurd (let z : ⊥ = omega arith in z)
ordered-paired (suc n) k before (item a no_items) r p e = absurd (let z : ⊥ = omega arith in z)
ordered-paired (suc n) k before (item a (item b us)) r p e =
    let two : 2 * suc n ≡ suc (suc (2 * n)) = omega arith in
    let t = items_image us ++ r in
    let flat : (image a ++ (image b ++ items_image us)) ++ r ≡ image a ++ (image b ++ t) = append_assoc (image a) (image b ++ items_image us) r ∙ ap (λ z. image a ++ z) (append_assoc (image b) (items_image us) r) in
    ap (λ s. holds (key_seen s) (rest_holds n before)) flat
    ∙ ap (λ o. holds o (rest_holds n before)) (key_of_image a (image b ++ t) p.0)
    ∙ one_member n before (text_of a) a b us t (first (2 * n) us) p.1.0 refl (λ key. ordered-paired n k (Some key) us r p.1.1 (omega arith))
    ∙ ap (λ m. is_some (paired before (first m (item a (item b us))))) (sym two)

-- ---- the whole walk

is_gathered : {A : Type 0} (o : Option A) (r : Run) → (f : A → Items) → cond (is_some o) (Some r.rest) None ≡ option_map (λ (z : Run). z.rest) (option_map (running r.rest) (option_map f o))
is_gathered None r f = refl
is_gathered (Some x) r f = refl

keyed-gathered : (h : Head) (k : ℕ) (t : List ℕ) (r : Run) → Written (parts h + k) t r → cond (keyed h t) (Some r.rest) None ≡ option_map (λ (z : Run). z.rest) (option_map (running r.rest) (gathered h r.values))
keyed-gathered (lone x) k t r w = refl
keyed-gathered (items n) k t r w = refl
keyed-gathered (members n) k t r w =
    ap (λ s. cond (ordered n None s) (Some r.rest) None) w.bytes_are
    ∙ ap (λ b. cond b (Some r.rest) None) (ordered-paired n k None r.values r.rest w.proper w.count)
    ∙ is_gathered (paired None (first (2 * n) r.values)) r (λ ms. item (map ms) (later (2 * n) r.values))

pub none_either : (b : Bool) → ◌≡◌ {A = Option (List ℕ)} (cond b None None) None
none_either true = refl
none_either false = refl

abbrev rests : Option Run → Option (List ℕ)
rests o = option_map (λ (z : Run). z.rest) o

after_run : (h : Head) (k f : ℕ) (t : List ℕ) (o : Option Run) → Octets t → run (parts h + k) f t ≡ o → cond (keyed h t) (rests o) None ≡ rests (then o (λ r. option_map (running r.rest) (gathered h r.values)))
after_run h k f t None q e = none_either (keyed h t)
after_run h k f t (Some r) q e = keyed-gathered h k t r (run-written (parts h + k) f t r q e)

after_seen : (s : List ℕ) (k f : ℕ) (o : Option Seen) → Octets s → seen s ≡ o → ((c : Seen) → Octets c.rest → walk keyed (parts c.head + k) f c.rest ≡ rests (run (parts c.head + k) f c.rest)) → then o (λ c. cond (keyed c.head c.rest) (walk keyed (parts c.head + k) f c.rest) None) ≡ rests (then o (λ c. then (run (parts c.head + k) f c.rest) (λ r. option_map (running r.rest) (gathered c.head r.values))))
after_seen s k f None q e ih = refl
after_seen s k f (Some c) q e ih =
    let w = head_written s c q e in
    let o = octets_behind s (head_image c.head) c.rest w.1 q in
    ap (λ z. cond (keyed c.head c.rest) z None) (ih c o) ∙ after_run c.head k f c.rest (run (parts c.head + k) f c.rest) o refl

walk-run : (k f : ℕ) (s : List ℕ) → Octets s → walk keyed k f s ≡ rests (run k f s)
unfolding walk run
walk-run zero f s q = refl
walk-run (suc k) zero s q = refl
walk-run (suc k) (suc f) s q = after_seen s k f (seen s) q refl (λ c o. walk-run (parts c.head + k) f c.rest o)

-- one run is one value
one_only : (s : List ℕ) (r : Run) (vs : Items) → items_count vs ≡ 1 → ◌≡◌ {A = Option (List ℕ)} (Some s) (option_map (λ (d : Decoded). d.rest) (only s vs))
one_only s r no_items e = absurd (let z : ⊥ = omega arith in z)
one_only s r (item v vs) e = refl

one_run_rest : (s : List ℕ) (o : Option Run) → Octets s → run 1 (length s) s ≡ o → rests o ≡ option_map (λ (d : Decoded). d.rest) (then o (λ r. only r.rest r.values))
one_run_rest s None q e = refl
one_run_rest s (Some r) q e = one_only r.rest r r.values (run-written 1 (length s) s r q e).count

-- the check passes one value exactly where one is decoded, and leaves off behind it
pub checked_decoded : (s : List ℕ) → Octets s → past keyed 1 s ≡ option_map (λ (d : Decoded). d.rest) (decoded s)
unfolding past decoded
checked_decoded s q = walk-run 1 (length s) s q ∙ one_run_rest s (run 1 (length s) s) q refl
