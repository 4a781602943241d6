-- The bytes of a store as they change.
use Rattle.std.proofs.Common.{◌≡◌, ℕ, ◌+◌, ◌-◌, ◌<◌, ◌≤◌, List, ◌++◌, length, take, drop, sym, ap, ◌∙◌, arith, length-append, length-take, length-drop}
use Rattle.std.proofs.lemmas.List.{drop-drop, drop-replicate, drop-set-lt, drop_at, replicate-append-replicate, length-replicate, with_items_is}
use Rattle.std.proofs.lemmas.Slice.{drop-put_mid}
use Rattle.std.specs.Vec.{with_item, with_items}
use borrow.Rule.Slice.PartMut.{put_mid, post_of}
use Rattle.json_values.specs.Stored.{Kept}
use Rattle.json_values.specs.Zeros.{zeros}
use Rattle.json_values.specs.declared.store.Store.TheInside.{Inside}

module _ (s : Inside) (h : Kept s) where
  pub whole : length s.bytes.items ≡ 65535
  whole = omega (arith, h.long, s.bytes.ok.0)

  -- what lies behind the texts is blank, also further on
  pub blank_past : (n : ℕ) → s.len ≤ n → drop n s.bytes.items ≡ zeros (65535 - n)
  unfolding zeros
  blank_past n le =
      ap (λ k. drop k s.bytes.items) (omega arith) ∙ sym (drop-drop (n - s.len) s.len s.bytes.items)
      ∙ ap (drop (n - s.len)) h.blank
      ∙ drop-replicate (n - s.len) (65535 - s.len) 0
      ∙ ap zeros (omega arith)

  -- one byte more
  pub push_kept : (b : ℕ) → s.len < 65535 → Kept (record { bytes = with_item s.bytes s.len b; len = s.len + 1 })
  push_kept b lt = record {
    long = h.long;
    within = omega arith;
    blank = drop-set-lt (s.len + 1) s.bytes.items s.len b (omega arith) ∙ blank_past (s.len + 1) (omega arith);
  }

  -- a write between two places, with zeros behind the new end
  module _ (at k : ℕ) (now part : List ℕ) (is : now ≡ s.bytes.items) (long : length part ≡ k) (fits : at + k ≤ 65535) where
    length_put : length (put_mid at k now part) ≡ 65535
    length_put = omega (arith, whole, ap length is, length-append (take at now) (part ++ post_of at k now), length-append part (post_of at k now), length-take at now, length-drop at now, length-drop k (drop at now))

    put_kept : (to : ℕ) → to ≤ 65535 → drop to (put_mid at k now part) ≡ zeros (65535 - to) → Kept (record { bytes = with_items s.bytes (put_mid at k now part); len = to })
    put_kept to few blank = record {
      long = h.long;
      within = few;
      blank = ap (drop to) (with_items_is s.bytes (put_mid at k now part) (length_put ∙ sym h.long)) ∙ blank;
    }

  -- more behind the texts
  pub append_kept : (more now part : List ℕ) → now ≡ s.bytes.items → part ≡ more → s.len + length more ≤ 65535
      → Kept (record { bytes = with_items s.bytes (put_mid s.len (s.len + length more - s.len) now part); len = s.len + length more })
  append_kept more now part is same fits =
      let long : length part ≡ s.len + length more - s.len = omega (arith, ap length same) in
      put_kept s.len (s.len + length more - s.len) now part is long (omega arith) (s.len + length more) fits
      (drop-put_mid s.len (s.len + length more - s.len) now part (s.len + length more) (omega arith) (omega (arith, h.within, whole, ap length is)) long
      ∙ ap (drop (s.len + length more)) is ∙ blank_past (s.len + length more) (omega arith))

  -- zeros where texts were
  pub cut_kept : (n : ℕ) (now part : List ℕ) → now ≡ s.bytes.items → part ≡ zeros (length (take (s.len - n) (drop n now))) → n < s.len
      → Kept (record { bytes = with_items s.bytes (put_mid n (s.len - n) now part); len = n })
  unfolding zeros
  cut_kept n now part is filled lt =
      let k = s.len - n in
      let blank : part ≡ zeros k = filled ∙ ap zeros (omega (arith, h.within, whole, ap length is, length-take k (drop n now), length-drop n now)) in
      put_kept n k now part is (ap length blank ∙ length-replicate k 0) (omega (arith, h.within)) n (omega (arith, h.within))
      (drop_at (take n now) (part ++ post_of n k now) n (omega (arith, h.within, whole, ap length is, length-take n now))
      ∙ ap (λ z. part ++ drop k (drop n z)) is
      ∙ ap (λ z. part ++ z) (drop-drop k n s.bytes.items ∙ ap (λ m. drop m s.bytes.items) (omega arith) ∙ h.blank)
      ∙ ap (λ z. z ++ zeros (65535 - s.len)) blank
      ∙ replicate-append-replicate k (65535 - s.len) 0
      ∙ ap zeros (omega (arith, h.within)))
