-- What is read from images.
use Rattle.std.proofs.Common.{◌≡◌, ℕ, zero, suc, ◌+◌, List, ◌++◌, length, Some, refl, ap, ◌∙◌, append_assoc}
use Rattle.image.proofs.Heads.{behold, head_image, head_read}
use Rattle.image.proofs.Laws.{one_run}
use Rattle.image.proofs.Opts.{mapped_some, then_some}
use Rattle.std.proofs.lemmas.Option.{none-some, same_Some}
use Rattle.image.proofs.Runs.{inner, opened}
use Rattle.image.specs.Decode.{Run, gathered, head_of, parts, run, running, seen, text_of, then}
use Rattle.image.specs.Image.{image, items_image}
use Rattle.image.specs.Typed.{Proper, Typed, item, list, map, no_items, scalar}
use Rattle.image_cursor.specs.Walking.{any, head_text, past, skipped, walk}
use Rattle.std.specs.Option.{option_map}

-- ---- reading

pub seen_image : (v : Typed) (t : List ℕ) → Proper v → seen (image v ++ t) ≡ Some (behold (head_of v) (items_image (inner v) ++ t))
seen_image v t p =
    let w = opened v p in
    ap seen (ap (λ s. s ++ t) w.bytes_are ∙ append_assoc (head_image (head_of v)) (items_image (inner v)) t) ∙ head_read (head_of v) (items_image (inner v) ++ t) w.proper_head

pub text_of_head : (v : Typed) → head_text (head_of v) ≡ text_of v
text_of_head (scalar s) = refl
text_of_head (list vs) = refl
text_of_head (map ms) = refl

-- ---- skipping

-- what is decoded is skipped
pub run-walk : (k f : ℕ) (s : List ℕ) (r : Run) → run k f s ≡ Some r → walk any k f s ≡ Some r.rest
unfolding run walk
run-walk zero f s r e = ap (λ z. Some z.rest) (same_Some (running s no_items) r e)
run-walk (suc k) zero s r e = absurd (none-some r e)
run-walk (suc k) (suc f) s r e =
    let c = then_some (seen s) (λ c. then (run (parts c.head + k) f c.rest) (λ q. option_map (running q.rest) (gathered c.head q.values))) r e in
    let h = c.mid.head in
    let t = c.mid.rest in
    let u = then_some (run (parts h + k) f t) (λ q. option_map (running q.rest) (gathered h q.values)) r c.gives in
    let g = mapped_some (gathered h u.mid.values) (running u.mid.rest) r u.gives in
    ap (λ o. then o (λ z. walk any (parts z.head + k) f z.rest)) c.was
    ∙ run-walk (parts h + k) f t u.mid u.was
    ∙ ap (λ z. Some z.rest) g.gives

pub skipped_image : (v : Typed) (r : List ℕ) → Proper v → skipped (image v ++ r) ≡ Some r
unfolding past
skipped_image v r p = run-walk 1 (length (image v ++ r)) (image v ++ r) (running r (item v no_items)) (one_run v r p)
