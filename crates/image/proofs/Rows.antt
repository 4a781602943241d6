-- Items one after another, and members as items.
use Rattle.std.proofs.Common.{◌≡◌, ℕ, zero, suc, ◌+◌, ◌*◌, ◌≤◌, true, cond, List, ◌++◌, Some, None, Option, Ordering, Less, Equal, Greater, sym, refl, ap, ◌∙◌, subst, append_assoc, arith}
use Rattle.image.proofs.Opts.{if_then, mapped_some}
use Rattle.std.proofs.lemmas.Option.{none-some, same_Some}
use Rattle.image.specs.Decode.{above, first, later, paired, paired_value, scalar_text, text_of}
use Rattle.image.specs.Image.{image, items_image, members_image, scalar_image}
use Rattle.image.specs.Typed.{Above, Ascending, Items, Members, Proper, ProperItems, ProperMembers, Scalar, Short, Typed, bool, bytes, duration, int, item, items_count, list, map, member, members_count, no_items, no_members, null, scalar, text, uint}
use Rattle.order.specs.Bytes.{compare_bytes}
use Rattle.std.specs.Option.{option_map}
use Rattle.std.specs.Ordering.{is_lt}

-- ---- two rows joined

abbrev pub join : Items → Items → Items
join no_items vs = vs
join (item u us) vs = item u (join us vs)

pub join_count : (us vs : Items) → items_count (join us vs) ≡ items_count us + items_count vs
join_count no_items vs = omega arith
join_count (item u us) vs = omega (arith, join_count us vs)

pub join_image : (us vs : Items) → items_image (join us vs) ≡ items_image us ++ items_image vs
unfolding image
join_image no_items vs = refl
join_image (item u us) vs = ap (λ t. image u ++ t) (join_image us vs) ∙ sym (append_assoc (image u) (items_image us) (items_image vs))

pub join_proper : (us vs : Items) → ProperItems us → ProperItems vs → ProperItems (join us vs)
join_proper no_items vs p q = q
join_proper (item u us) vs p q = (p.0, join_proper us vs p.1 q)

pub first_join : (n : ℕ) (us vs : Items) → n ≡ items_count us → first n (join us vs) ≡ us
unfolding first
first_join zero no_items vs e = refl
first_join zero (item u us) vs e = absurd (let z : ⊥ = omega arith in z)
first_join (suc n) no_items vs e = absurd (let z : ⊥ = omega arith in z)
first_join (suc n) (item u us) vs e = ap (item u) (first_join n us vs (omega arith))

pub later_join : (n : ℕ) (us vs : Items) → n ≡ items_count us → later n (join us vs) ≡ vs
unfolding later
later_join zero no_items vs e = refl
later_join zero (item u us) vs e = absurd (let z : ⊥ = omega arith in z)
later_join (suc n) no_items vs e = absurd (let z : ⊥ = omega arith in z)
later_join (suc n) (item u us) vs e = later_join n us vs (omega arith)

-- a row is what its two parts join to
pub record Cut (n : ℕ) (vs : Items) : Type 0 where
  pub whole : join (first n vs) (later n vs) ≡ vs
  pub front_count : items_count (first n vs) ≡ n
  pub back_count : n + items_count (later n vs) ≡ items_count vs
  pub front_proper : ProperItems (first n vs)
  pub back_proper : ProperItems (later n vs)

pub cut : (n : ℕ) (vs : Items) → n ≤ items_count vs → ProperItems vs → Cut n vs
unfolding first later
cut zero vs h p = record { whole = refl; front_count = refl; back_count = omega arith; front_proper = tt; back_proper = p }
cut (suc n) no_items h p = absurd (let z : ⊥ = omega arith in z)
cut (suc n) (item v vs) h p =
    let r = cut n vs (omega arith) p.1 in
    record {
      whole = ap (item v) r.whole;
      front_count = omega (arith, r.front_count);
      back_count = omega (arith, r.back_count);
      front_proper = (p.0, r.front_proper);
      back_proper = r.back_proper;
    }

pub cut_image : (n : ℕ) (vs : Items) → Cut n vs → items_image vs ≡ items_image (first n vs) ++ items_image (later n vs)
cut_image n vs c = ap items_image (sym c.whole) ∙ join_image (first n vs) (later n vs)

-- ---- members as items: by turns a key and a value

abbrev pub flat : Members → Items
flat no_members = no_items
flat (member k v ms) = item (scalar (text k)) (item v (flat ms))

pub flat_count : (ms : Members) → items_count (flat ms) ≡ 2 * members_count ms
flat_count no_members = refl
flat_count (member k v ms) = omega (arith, flat_count ms)

pub flat_image : (ms : Members) → items_image (flat ms) ≡ members_image ms
unfolding image
flat_image no_members = refl
flat_image (member k v ms) = ap (λ t. scalar_image (text k) ++ (image v ++ t)) (flat_image ms)

pub flat_proper : (ms : Members) → ProperMembers ms → ProperItems (flat ms)
flat_proper no_members p = tt
flat_proper (member k v ms) p = (p.0, (p.1.0, flat_proper ms p.1.1))

-- the keys ascend from one before them on
abbrev pub From : Option (List ℕ) → Members → Type 0
From None ms = Unit {0}
From (Some k) ms = Above k ms

less_lt : (o : Ordering) → o ≡ Less → is_lt o ≡ true
less_lt o e = ap is_lt e

lt_less : (o : Ordering) → is_lt o ≡ true → o ≡ Less
lt_less Less e = refl
lt_less Equal e = let z : ◌≡◌ {A = ℕ} 0 1 = cc in absurd (let y : ⊥ = omega arith in y)
lt_less Greater e = let z : ◌≡◌ {A = ℕ} 0 1 = cc in absurd (let y : ⊥ = omega arith in y)

from_above : (before : Option (List ℕ)) (k : List ℕ) (v : Typed) (ms : Members) → From before (member k v ms) → above before k ≡ true
from_above None k v ms f = refl
from_above (Some j) k v ms f = less_lt (compare_bytes j k) f

above_from : (before : Option (List ℕ)) (k : List ℕ) (v : Typed) (ms : Members) → above before k ≡ true → From before (member k v ms)
above_from None k v ms f = tt
above_from (Some j) k v ms f = lt_less (compare_bytes j k) f

-- ascending members are what their items pair to
pub paired_flat : (before : Option (List ℕ)) (ms : Members) → From before ms → Ascending ms → paired before (flat ms) ≡ Some ms
unfolding paired
paired_flat before no_members f a = refl
paired_flat before (member k v ms) f a =
    ap (λ t. cond t (option_map (member k v) (paired (Some k) (flat ms))) None) (from_above before k v ms f)
    ∙ ap (option_map (member k v)) (paired_flat (Some k) ms a.0 a.1)

-- and items that pair to members are theirs
pub record Pairs (before : Option (List ℕ)) (vs : Items) (ms : Members) : Type 0 where
  pub items_are : flat ms ≡ vs
  pub from : From before ms
  pub ascends : Ascending ms
  pub proper : ProperMembers ms

scalar_text_is : (s : Scalar) (k : List ℕ) → scalar_text s ≡ Some k → s ≡ text k
scalar_text_is null k e = absurd (none-some k e)
scalar_text_is (bool b) k e = absurd (none-some k e)
scalar_text_is (int z) k e = absurd (none-some k e)
scalar_text_is (uint n) k e = absurd (none-some k e)
scalar_text_is (text s) k e = ap text (same_Some s k e)
scalar_text_is (bytes s) k e = absurd (none-some k e)
scalar_text_is (duration z) k e = absurd (none-some k e)

pub text_is : (v : Typed) (k : List ℕ) → text_of v ≡ Some k → v ≡ scalar (text k)
text_is (scalar s) k e = ap scalar (scalar_text_is s k e)
text_is (list vs) k e = absurd (none-some k e)
text_is (map ms) k e = absurd (none-some k e)

one_more : (before : Option (List ℕ)) (v : Typed) (k : List ℕ) (w : Typed) (ws : Items) (ns ms : Members) → Proper v → Proper w → text_of v ≡ Some k → above before k ≡ true → Pairs (Some k) ws ns → member k w ns ≡ ms → Pairs before (item v (item w ws)) ms
one_more before v k w ws ns ms p q e a r m =
    let short : Short k = subst Proper (text_is v k e) p in
    let all : Pairs before (item v (item w ws)) (member k w ns) = record {
      items_are = ap (λ x. item x (item w (flat ns))) (sym (text_is v k e)) ∙ ap (λ x. item v (item w x)) r.items_are;
      from = above_from before k w ns a;
      ascends = (r.from, r.ascends);
      proper = (short, (q, r.proper));
    } in
    subst (Pairs before (item v (item w ws))) m all

none_from : (before : Option (List ℕ)) → From before no_members
none_from None = tt
none_from (Some k) = tt

none_paired : (before : Option (List ℕ)) (ms : Members) → no_members ≡ ms → Pairs before no_items ms
none_paired before ms e =
    let none : Pairs before no_items no_members = record { items_are = refl; from = none_from before; ascends = tt; proper = tt } in
    subst (Pairs before no_items) e none

mutual
  unfolding paired

  pub paired_is : (before : Option (List ℕ)) (vs : Items) (ms : Members) → ProperItems vs → paired before vs ≡ Some ms → Pairs before vs ms
  paired_is before no_items ms p e = none_paired before ms (same_Some no_members ms e)
  paired_is before (item v vs) ms p e = paired_value_is before v (text_of v) vs ms p.0 p.1 refl e

  paired_value_is : (before : Option (List ℕ)) (v : Typed) (o : Option (List ℕ)) (vs : Items) (ms : Members) → Proper v → ProperItems vs → text_of v ≡ o → paired_value before o vs ≡ Some ms → Pairs before (item v vs) ms
  paired_value_is before v None no_items ms p q t e = absurd (none-some ms e)
  paired_value_is before v (Some k) no_items ms p q t e = absurd (none-some ms e)
  paired_value_is before v None (item w ws) ms p q t e = absurd (none-some ms e)
  paired_value_is before v (Some k) (item w ws) ms p q t e =
      let a = if_then (above before k) (option_map (member k w) (paired (Some k) ws)) ms e in
      let m = mapped_some (paired (Some k) ws) (member k w) ms a.1 in
      one_more before v k w ws m.mid ms p q.0 t a.0 (paired_is (Some k) ws m.mid q.1 m.was) m.gives
