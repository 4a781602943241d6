-- Runs of values are decoded as they were written.
use Rattle.std.proofs.Common.{◌≡◌, ℕ, zero, suc, ◌+◌, ◌*◌, ◌^◌, ◌<◌, ◌≤◌, true, false, List, ◌++◌, length, Some, None, sym, refl, ap, ◌∙◌, subst, append_assoc, append-nil, arith, length-append}
use Rattle.image.proofs.Heads.{ProperHead, behold, head_image, head_read, head_written}
use Rattle.image.proofs.Opts.{mapped_some, then_some}
use Rattle.std.proofs.lemmas.Option.{none-some, same_Some}
use Rattle.image.proofs.Rows.{cut, cut_image, first_join, flat, flat_count, flat_image, flat_proper, join, join_count, join_image, join_proper, later_join, paired_flat, paired_is}
use Rattle.image.specs.Decode.{Head, items, lone, members, Run, first, gathered, head_of, later, paired, parts, run, running, seen, then}
use Rattle.image.specs.Image.{image, items_image, members_image}
use Rattle.image.specs.Typed.{Items, Octets, Proper, ProperItems, Typed, bool, bytes, duration, int, item, items_count, list, map, members_count, no_items, null, scalar, text, uint}
use Rattle.std.proofs.ByRecursion.{All-drop}
use Rattle.std.proofs.lemmas.List.{drop_at}
use Rattle.std.specs.Option.{option_map}

-- ---- what is decoded was written

-- k values, whose images stand before the rest
pub record Written (k : ℕ) (s : List ℕ) (r : Run) : Type 0 where
  pub count : items_count r.values ≡ k
  pub proper : ProperItems r.values
  pub bytes_are : s ≡ items_image r.values ++ r.rest

pub octets_behind : (s t u : List ℕ) → s ≡ t ++ u → Octets s → Octets u
octets_behind s t u e o = subst Octets (drop_at t u (length t) refl) (All-drop (λ b. b < 256) (length t) (t ++ u) (subst Octets e o))

-- a command and the values behind it make a value and the values behind that
module _ (k : ℕ) (s t : List ℕ) (us : Items) (r : List ℕ) where
  pub gathered-written : (h : Head) (vs : Items) → ProperHead h → s ≡ head_image h ++ t → Written (parts h + k) t (running r us) → gathered h us ≡ Some vs → Written (suc k) s (running r vs)
  unfolding image
  gathered-written (lone x) vs p e w g =
      let all : Written (suc k) s (running r (item (scalar x) us)) = record {
        count = omega (arith, w.count);
        proper = (p, w.proper);
        bytes_are = e ∙ ap (λ z. head_image (lone x) ++ z) w.bytes_are ∙ sym (append_assoc (head_image (lone x)) (items_image us) r);
      } in
      subst (λ z. Written (suc k) s (running r z)) (same_Some (item (scalar x) us) vs g) all
  gathered-written (items n) vs p e w g =
      let c = cut n us (omega (arith, w.count)) w.proper in
      let small : items_count (first n us) < 2 ^ 32 = omega (arith, c.front_count, p) in
      let bytes_are : s ≡ items_image (item (list (first n us)) (later n us)) ++ r =
      e ∙ ap (λ z. head_image (items n) ++ z) (w.bytes_are ∙ ap (λ z. z ++ r) (cut_image n us c))
      ∙ ap (λ m. head_image (items m) ++ ((items_image (first n us) ++ items_image (later n us)) ++ r)) (sym c.front_count) in
      let all : Written (suc k) s (running r (item (list (first n us)) (later n us))) = record {
        count = omega (arith, w.count, c.back_count);
        proper = ((small, c.front_proper), c.back_proper);
        bytes_are = bytes_are;
      } in
      subst (λ z. Written (suc k) s (running r z)) (same_Some (item (list (first n us)) (later n us)) vs g) all
  gathered-written (members n) vs p e w g =
      let c = cut (2 * n) us (omega (arith, w.count)) w.proper in
      let m = mapped_some (paired None (first (2 * n) us)) (λ ms. item (map ms) (later (2 * n) us)) vs g in
      let q = paired_is None (first (2 * n) us) m.mid c.front_proper m.was in
      let counted : members_count m.mid ≡ n = omega (arith, flat_count m.mid, ap items_count q.items_are, c.front_count) in
      let spelled : items_image (first (2 * n) us) ≡ members_image m.mid = ap items_image (sym q.items_are) ∙ flat_image m.mid in
      let bytes_are : s ≡ items_image (item (map m.mid) (later (2 * n) us)) ++ r =
      e ∙ ap (λ z. head_image (members n) ++ z) (w.bytes_are ∙ ap (λ z. z ++ r) (cut_image (2 * n) us c))
      ∙ ap (λ z. head_image (members n) ++ ((z ++ items_image (later (2 * n) us)) ++ r)) spelled
      ∙ ap (λ j. head_image (members j) ++ ((members_image m.mid ++ items_image (later (2 * n) us)) ++ r)) (sym counted) in
      let all : Written (suc k) s (running r (item (map m.mid) (later (2 * n) us))) = record {
        count = omega (arith, w.count, c.back_count);
        proper = ((omega (arith, counted, p), (q.ascends, q.proper)), c.back_proper);
        bytes_are = bytes_are;
      } in
      subst (λ z. Written (suc k) s (running r z)) m.gives all

pub run-written : (k turns : ℕ) (s : List ℕ) (r : Run) → Octets s → run k turns s ≡ Some r → Written k s r
unfolding run image
run-written zero turns s r o e =
    let all : Written zero s (running s no_items) = record { count = refl; proper = tt; bytes_are = refl } in
    subst (Written zero s) (same_Some (running s no_items) r e) all
run-written (suc k) zero s r o e = absurd (none-some r e)
run-written (suc k) (suc turns) s r o e =
    let c = then_some (seen s) (λ c. then (run (parts c.head + k) turns c.rest) (λ r. option_map (running r.rest) (gathered c.head r.values))) r e in
    let h = c.mid.head in
    let t = c.mid.rest in
    let was = head_written s c.mid o c.was in
    let u = then_some (run (parts h + k) turns t) (λ r. option_map (running r.rest) (gathered h r.values)) r c.gives in
    let w = run-written (parts h + k) turns t u.mid (octets_behind s (head_image h) t was.1 o) u.was in
    let g = mapped_some (gathered h u.mid.values) (running u.mid.rest) r u.gives in
    subst (Written (suc k) s) g.gives (gathered-written k s t u.mid.values u.mid.rest h g.mid was.0 was.1 w g.was)

-- ---- what is written is decoded

-- the values within a value
abbrev pub inner : Typed → Items
inner (scalar x) = no_items
inner (list us) = us
inner (map ms) = flat ms

pub record Opened (v : Typed) : Type 0 where
  pub proper_head : ProperHead (head_of v)
  pub proper_inner : ProperItems (inner v)
  pub count : items_count (inner v) ≡ parts (head_of v)
  pub bytes_are : image v ≡ head_image (head_of v) ++ items_image (inner v)
  pub some_bytes : 0 < length (head_image (head_of v))
  pub gathers : (vs : Items) → gathered (head_of v) (join (inner v) vs) ≡ Some (item v vs)

scalar_some : (x : _) → 0 < length (head_image (lone x))
scalar_some null = omega arith
scalar_some (bool false) = omega arith
scalar_some (bool true) = omega arith
scalar_some (int z) = omega arith
scalar_some (uint n) = omega arith
scalar_some (text s) = omega arith
scalar_some (bytes s) = omega arith
scalar_some (duration z) = omega arith

pub opened : (v : Typed) → Proper v → Opened v
unfolding image
opened (scalar x) p = record {
  proper_head = p;
  proper_inner = tt;
  count = refl;
  bytes_are = sym (append-nil (head_image (lone x)));
  some_bytes = scalar_some x;
  gathers = λ vs. refl;
}
opened (list us) p = record {
  proper_head = p.0;
  proper_inner = p.1;
  count = refl;
  bytes_are = refl;
  some_bytes = omega arith;
  gathers = λ vs. ap (λ z. Some (item (list z) (later (items_count us) (join us vs)))) (first_join (items_count us) us vs refl) ∙ ap (λ z. Some (item (list us) z)) (later_join (items_count us) us vs refl);
}
opened (map ms) p =
    let n : 2 * members_count ms ≡ items_count (flat ms) = sym (flat_count ms) in
    record {
      proper_head = p.0;
      proper_inner = flat_proper ms p.1.1;
      count = flat_count ms;
      bytes_are = ap (λ t. head_image (members (members_count ms)) ++ t) (sym (flat_image ms));
      some_bytes = omega arith;
      gathers = λ vs.
          ap (λ z. option_map (λ ns. item (map ns) (later (2 * members_count ms) (join (flat ms) vs))) (paired None z)) (first_join (2 * members_count ms) (flat ms) vs n)
          ∙ ap (λ z. option_map (λ ns. item (map ns) z) (paired None (flat ms))) (later_join (2 * members_count ms) (flat ms) vs n)
          ∙ ap (option_map (λ ns. item (map ns) vs)) (paired_flat None ms tt p.1.0);
    }

-- the bytes of a value, as they are read first
pub opened_bytes : (v : Typed) (vs : Items) (r : List ℕ) → Opened v → image v ++ (items_image vs ++ r) ≡ head_image (head_of v) ++ (items_image (join (inner v) vs) ++ r)
opened_bytes v vs r w =
    ap (λ z. z ++ (items_image vs ++ r)) w.bytes_are
    ∙ append_assoc (head_image (head_of v)) (items_image (inner v)) (items_image vs ++ r)
    ∙ ap (λ z. head_image (head_of v) ++ z) (sym (append_assoc (items_image (inner v)) (items_image vs) r) ∙ ap (λ z. z ++ r) (sym (join_image (inner v) vs)))

pub opened-length : (v : Typed) (vs : Items) → Opened v → length (items_image (item v vs)) ≡ length (head_image (head_of v)) + length (items_image (join (inner v) vs))
unfolding image
opened-length v vs w =
    omega (arith, length-append (image v) (items_image vs), ap length w.bytes_are, length-append (head_image (head_of v)) (items_image (inner v)), ap length (join_image (inner v) vs), length-append (items_image (inner v)) (items_image vs))

pub run_reads : (turns k : ℕ) (vs : Items) (r : List ℕ) → k ≡ items_count vs → ProperItems vs → length (items_image vs) ≤ turns → run k turns (items_image vs ++ r) ≡ Some (running r vs)
unfolding run image
run_reads turns zero no_items r e p h = refl
run_reads turns (suc k) no_items r e p h = absurd (let z : ⊥ = omega arith in z)
run_reads turns zero (item v vs) r e p h = absurd (let z : ⊥ = omega arith in z)
run_reads zero (suc k) (item v vs) r e p h =
    let w = opened v p.0 in
    absurd (let z : ⊥ = omega (arith, opened-length v vs w, w.some_bytes) in z)
run_reads (suc turns) (suc k) (item v vs) r e p h =
    let w = opened v p.0 in
    let us = join (inner v) vs in
    let t = items_image us ++ r in
    let bytes_are : (image v ++ items_image vs) ++ r ≡ head_image (head_of v) ++ t = append_assoc (image v) (items_image vs) r ∙ opened_bytes v vs r w in
    let read : seen ((image v ++ items_image vs) ++ r) ≡ Some (behold (head_of v) t) = ap seen bytes_are ∙ head_read (head_of v) t w.proper_head in
    let inside : run (parts (head_of v) + k) turns t ≡ Some (running r us) =
    run_reads turns (parts (head_of v) + k) us r (omega (arith, w.count, join_count (inner v) vs)) (join_proper (inner v) vs w.proper_inner p.1) (omega (arith, opened-length v vs w, w.some_bytes)) in
    ap (λ o. then o (λ c. then (run (parts c.head + k) turns c.rest) (λ q. option_map (running q.rest) (gathered c.head q.values)))) read
    ∙ ap (λ o. then o (λ q. option_map (running q.rest) (gathered (head_of v) q.values))) inside
    ∙ ap (option_map (running r)) (w.gathers vs)
