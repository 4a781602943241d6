-- Where a cursor stands behind what it read.
use Rattle.std.proofs.Common.{◌≡◌, ℕ, ◌<◌, List, length, drop, IfSome, Some, None, Option, sym, ap, ◌∙◌, arith, length-drop}
use Rattle.image.specs.Decode.{seen}
use Rattle.image_cursor.proofs.Lengths.{sought_shorter}
use Rattle.image_cursor.proofs.Walks.{past_shorter, seen_shorter}
use Rattle.image_cursor.specs.Heads.{seen_by}
use Rattle.image_cursor.specs.Tails.{SameEnd, bytes_left}
use Rattle.image_cursor.specs.Walking.{any, left_off, skipped, sought}
use Rattle.image_cursor.specs.declared.head.Head.{Head}
use Rattle.image_cursor.specs.declared.tail.Tail.{Tail}
use Rattle.std.specs.Option.{option_map, option_map_or}

module _ (bs : List ℕ) (at : ℕ) (from : Tail) (rest : from.rest.now ≡ drop at bs) (place : from.place ≡ at) where
  -- at the end of what was left, less what is
  stands : (to : Tail) → SameEnd from to → length to.rest.now < length (drop at bs) → to.place ≡ left_off bs at (Some to.rest.now)
  stands to e h = omega (arith, ap length rest, length-drop at bs)

  pub read_to : (h : Head) (to : Tail) → SameEnd from to → Some (seen_by (h, to)) ≡ seen from.rest.now → to.place ≡ left_off bs at (option_map (λ c. c.rest) (seen (drop at bs)))
  read_to h to e v =
      let w = v ∙ ap seen rest in
      stands to e (seen_shorter (drop at bs) (seen_by (h, to)) (sym w)) ∙ ap (λ o. left_off bs at (option_map (λ c. c.rest) o)) w

  gone : (o : Option (List ℕ)) (to : Option Tail) → IfSome to (λ t. SameEnd from t) → bytes_left to ≡ o → ((r : List ℕ) → o ≡ Some r → length r < length (drop at bs)) → option_map_or (λ t. t.place) to at ≡ left_off bs at o
  gone o None e v s = ap (left_off bs at) v
  gone o (Some t) e v s = stands t e (s t.rest.now (sym v)) ∙ ap (left_off bs at) v

  pub skipped_to : (to : Option Tail) → IfSome to (λ t. SameEnd from t) → bytes_left to ≡ skipped from.rest.now → option_map_or (λ t. t.place) to at ≡ left_off bs at (skipped (drop at bs))
  skipped_to to e v = gone (skipped (drop at bs)) to e (v ∙ ap skipped rest) (λ r p. past_shorter any (drop at bs) r p)

  pub sought_to : (key : List ℕ) (to : Option Tail) → IfSome to (λ t. SameEnd from t) → bytes_left to ≡ sought key from.rest.now → option_map_or (λ t. t.place) to at ≡ left_off bs at (sought key (drop at bs))
  sought_to key to e v = gone (sought key (drop at bs)) to e (v ∙ ap (sought key) rest) (λ r p. sought_shorter key (drop at bs) r p)
