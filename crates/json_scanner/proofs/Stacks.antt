-- The containers that are open, in an array.
use Rattle.std.proofs.Common.{◌≡◌, suc, ◌+◌, ◌-◌, ◌<◌, ◌∷◌, [], reverse, length, get_or, take, drop, set, replicate, sym, ap, ◌∙◌, arith, length-take, length-set}
use Rattle.std.proofs.lemmas.List.{drop-drop, drop-replicate, drop-set, drop-set-lt, length-reverse, reverse-append, take-set, take_more}
use Rattle.json_scanner.specs.declared.modes.Container.{Container}
use Rattle.json_scanner.specs.declared.modes.Container.TheVariants as container
use Rattle.json_scanner.specs.declared.stack.Stack.TheInside.{Inside}
use Rattle.json_scanner.specs.Machine.{outer}
use Rattle.json_scanner.specs.Stacks.{Kept}

module _ (s : Inside) (h : Kept s) where
  pub opened-length : length (reverse (take s.depth s.kinds)) ≡ s.depth
  opened-length = omega (arith, length-reverse (take s.depth s.kinds), length-take s.depth s.kinds, h.room, h.within)

  -- one that opens is written behind the others, and lists still lie behind it
  pub pushed_kept : (c : Container) → s.depth < 200 → Kept (record { kinds = set s.kinds s.depth c; depth = s.depth + 1 })
  pushed_kept c lt =
      record {
        room = length-set s.kinds s.depth c ∙ h.room;
        within = omega arith;
        blank = drop-set-lt (s.depth + 1) s.kinds s.depth c (omega arith)
            ∙ sym (drop-drop 1 s.depth s.kinds)
            ∙ ap (drop 1) h.blank
            ∙ drop-replicate 1 (200 - s.depth) container.List
            ∙ ap (λ n. replicate n container.List) (omega arith);
      }

  module _ (pos : 0 < s.depth) where
    -- a list takes the place of the one that closes
    pub popped_kept : Kept (record { kinds = set s.kinds (s.depth - 1) container.List; depth = s.depth - 1 })
    popped_kept =
        let one_more : 200 - (s.depth - 1) ≡ suc (200 - s.depth) = omega (arith, h.within) in
        record {
          room = length-set s.kinds (s.depth - 1) container.List ∙ h.room;
          within = omega (arith, h.within);
          blank = drop-set s.kinds (s.depth - 1) container.List (omega (arith, h.room, h.within))
              ∙ ap (λ n. container.List ∷ drop n s.kinds) (omega arith)
              ∙ ap (λ l. container.List ∷ l) h.blank
              ∙ sym (ap (λ n. replicate n container.List) one_more);
        }

    opened-last : (x : Container) → reverse (take s.depth s.kinds) ≡ get_or s.kinds (s.depth - 1) x ∷ reverse (take (s.depth - 1) s.kinds)
    opened-last x =
        let e : s.depth ≡ s.depth - 1 + 1 = omega arith in
        ap (λ n. reverse (take n s.kinds)) e ∙ (ap reverse (take_more s.kinds (s.depth - 1) x (omega (arith, h.room, h.within))) ∙ reverse-append (take (s.depth - 1) s.kinds) (get_or s.kinds (s.depth - 1) x ∷ []))

    pub pop_opened : (x : Container) → reverse (take (s.depth - 1) (set s.kinds (s.depth - 1) x)) ≡ outer (reverse (take s.depth s.kinds))
    pop_opened x = ap reverse (take-set s.kinds (s.depth - 1) x) ∙ sym (ap outer (opened-last x))
