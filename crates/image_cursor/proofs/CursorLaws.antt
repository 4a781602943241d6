-- The laws of a cursor over an image.
use Rattle.std.proofs.Common.{◌≡◌, ℕ, zero, suc, ◌+◌, ◌-◌, ◌<◌, Bool, true, false, cond, List, ◌++◌, length, drop, Some, Option, sym, refl, ap, ◌∙◌, subst, append_assoc, arith, length-append, length-drop}
use Rattle.image.proofs.Heads.{behold, head_image}
use Rattle.image.proofs.Rows.{flat_image}
use Rattle.image.proofs.Runs.{inner, opened}
use Rattle.image.specs.Decode.{head_of, then}
use Rattle.image.specs.Image.{image, items_image, members_image, scalar_image}
use Rattle.image.specs.Typed.{Members, Proper, ProperMembers, Typed, list, map, member, members_count, no_members, scalar, text}
use Rattle.image_cursor.proofs.Checks.{key_of_image}
use Rattle.image_cursor.proofs.Images.{seen_image, skipped_image}
use Rattle.image_cursor.proofs.Keys.{look_more}
use Rattle.image_cursor.specs.Laws.{Finds, FindsMembers, ReadsImages, SkipsImages, content, value_of}
use Rattle.image_cursor.specs.Walking.{key_seen, left_off, looked_in, looked_up, skipped, sought}
use Rattle.order.specs.Bytes.{compare_bytes}
use Rattle.std.specs.Ordering.{is_eq}

inner_content : (v : Typed) → items_image (inner v) ≡ content v
unfolding image
inner_content (scalar s) = refl
inner_content (list vs) = refl
inner_content (map ms) = flat_image ms

pub reads_images : ReadsImages
reads_images v r p = seen_image v r p ∙ ap (λ s. Some (behold (head_of v) (s ++ r))) (inner_content v)

image_some : (v : Typed) → Proper v → 0 < length (image v)
image_some v p =
    let w = opened v p in
    omega (arith, ap length w.bytes_are, length-append (head_image (head_of v)) (items_image (inner v)), w.some_bytes)

ends : (s : List ℕ) (at : ℕ) (v : Typed) (r : List ℕ) → Proper v → drop at s ≡ image v ++ r → left_off s at (skipped (drop at s)) ≡ at + length (image v)
ends s at v r p e =
    ap (λ t. left_off s at (skipped t)) e
    ∙ ap (left_off s at) (skipped_image v r p)
    ∙ (let n : length s - length r ≡ at + length (image v) = omega (arith, ap length e, length-append (image v) r, length-drop at s, image_some v p) in n)

pub skips_images : SkipsImages
skips_images = record { skips = skipped_image; ends = ends }

-- ---- look-up

one_look : (t : Bool) (v : Typed) (o : Option Typed) (s : List ℕ) (a : Option (List ℕ)) → Finds o a → Finds (cond t (Some v) o) (cond t (Some (image v ++ s)) a)
one_look true v o s a f = (s, refl)
one_look false v o s a f = f

finds_in : (ms : Members) (n : ℕ) (key r : List ℕ) → n ≡ members_count ms → ProperMembers ms → Finds (value_of key ms) (looked_up n key (members_image ms ++ r))
unfolding image looked_up
finds_in no_members zero key r e p = refl
finds_in no_members (suc n) key r e p = absurd (let z : ⊥ = omega arith in z)
finds_in (member k v ms) zero key r e p = absurd (let z : ⊥ = omega arith in z)
finds_in (member k v ms) (suc n) key r e p =
    let t = members_image ms ++ r in
    let m : suc n - 1 ≡ n = omega arith in
    let flat : (scalar_image (text k) ++ (image v ++ members_image ms)) ++ r ≡ scalar_image (text k) ++ (image v ++ t) = append_assoc (scalar_image (text k)) (image v ++ members_image ms) r ∙ ap (λ z. scalar_image (text k) ++ z) (append_assoc (image v) (members_image ms) r) in
    let seen_key : key_seen (scalar_image (text k) ++ (image v ++ t)) ≡ Some (record { key = k; rest = image v ++ t }) = key_of_image (scalar (text k)) (image v ++ t) p.0 in
    let looks : looked_up (suc n) key ((scalar_image (text k) ++ (image v ++ members_image ms)) ++ r) ≡ cond (is_eq (compare_bytes k key)) (Some (image v ++ t)) (looked_up n key t) =
    ap (looked_up (suc n) key) flat
    ∙ look_more (suc n) key (scalar_image (text k) ++ (image v ++ t)) (record { key = k; rest = image v ++ t }) (omega arith) (sym seen_key)
    ∙ ap (λ o. cond (is_eq (compare_bytes k key)) (Some (image v ++ t)) (then o (looked_up (suc n - 1) key))) (skipped_image v t p.1.0)
    ∙ ap (λ j. cond (is_eq (compare_bytes k key)) (Some (image v ++ t)) (looked_up j key t)) m in
    subst (Finds (value_of key (member k v ms))) (sym looks) (one_look (is_eq (compare_bytes k key)) v (value_of key ms) t (looked_up n key t) (finds_in ms n key r (omega arith) p.1.1))

pub finds_members : FindsMembers
finds_members ms key r p =
    let sees : sought key (image (map ms) ++ r) ≡ looked_up (members_count ms) key (members_image ms ++ r) = ap (λ o. then o (looked_in key)) (reads_images (map ms) r p) in
    subst (Finds (value_of key ms)) (sym sees) (finds_in ms (members_count ms) key r refl p.1.1)
