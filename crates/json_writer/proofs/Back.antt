-- What is written follows the grammar, production by production.
use Rattle.std.proofs.Common.{◌≡◌, ℕ, suc, ◌+◌, ◌-◌, ◌*◌, ◌/◌, ◌%◌, ◌^◌, ◌<◌, ◌≤◌, Bool, true, false, cond, not, ◌&&◌, ◌||◌, eqb, ltb, leb, List, [], ◌∷◌, ◌++◌, length, ℤ, pos, negsuc, decimal, Some, None, slice_index, sym, refl, ap, ◌∙◌, subst, append_assoc, append-nil, arith}
use lib.Utf8.{encode}
use Rattle.std.specs.List.{flat_map}
use Rattle.std.specs.Char.{is_ascii_digit}
use Rattle.std.specs.Fmt.{signed_decimal}
use Rattle.std.proofs.lemmas.Str.Ascii.{encode_ascii}
use Rattle.std.proofs.lemmas.Fmt.{decimal_by_steps}
use Rattle.std.proofs.lemmas.Bool.{agree_below_at, and_from, and_left, and_parts, eqb-true, false≢true, le-leb, leb-true, lt-leb, le-ltb, ltb-true, ne_eqb, not-true, or_from, or_parts}
use Rattle.hex.specs.Hex.{encode_with, lower_digits}
use Rattle.json_values.specs.Value.{Value, Items, Members, null, bool, int, uint, text, list, map, no_item, item, no_member, member}
use Rattle.json_scanner.specs.Grammar.{Blank, Character, Chars, CodeUnit, Elements, Entries, Name, Numeral, Raw, Text, Tree, Trees, nil, snoc, plain, simple}
use Rattle.json_scanner.specs.Grammar as g
use Rattle.json_writer.specs.Back.{Letter, Letters, Small, Writable, WritableItems, WritableMembers, WritesJson, marked, members_from, number_tree, tree_of, trees_from}
use Rattle.json_writer.specs.Compact.{compact, control_escape, escaped, items_text, members_text, more_items, more_members, quoted, short_letter, unit_escape}

-- ---- numbers

digit_is : (n : ℕ) → n < 10 → is_ascii_digit (48 + n) ≡ true
digit_is n h = and_from (leb 48 (48 + n)) (leb (48 + n) 57) (le-leb 48 (48 + n) (omega arith)) (le-leb (48 + n) 57 (omega arith))

numeral_one : (n : ℕ) → n < 10 → Numeral n ((48 + n) ∷ [])
numeral_one n h = let e : (48 + n) - 48 ≡ n = omega arith in subst (λ k. Numeral k ((48 + n) ∷ [])) e (Numeral.digit (48 + n) (digit_is n h))

numeral_more : (n : ℕ) (ds : List ℕ) → 10 ≤ n → Numeral (n / 10) ds → Numeral n (ds ++ ((48 + n % 10) ∷ []))
numeral_more n ds h d =
    let e : n / 10 * 10 + ((48 + n % 10) - 48) ≡ n = omega arith in
    subst (λ k. Numeral k (ds ++ ((48 + n % 10) ∷ []))) e (Numeral.more (48 + n % 10) d (omega arith) (digit_is (n % 10) (omega arith)))

numeral : (n : ℕ) → n < 2 ^ 64 → Numeral n (decimal n)
numeral n h = decimal_by_steps Numeral numeral_one numeral_more n h

number_text : (z : ℤ) → Small z → g.Value (number_tree z) (signed_decimal z)
number_text (pos n) h = g.Value.whole (g.Whole.plus (numeral n (omega arith)))
number_text (negsuc n) h = g.Value.whole (g.Whole.minus (numeral (suc n) (omega arith)))

-- ---- strings

-- a byte that stands for itself
kept : (b : ℕ) → marked b ≡ false → escaped b ≡ b ∷ []
kept b m =
    let two = or_parts (ltb b 32) (eqb b 34 || eqb b 92) m in
    let three = or_parts (eqb b 34) (eqb b 92) two.1 in
    rw (two.0, three.0, three.1)

-- the digits of a code unit

-- the n-th digit is one, and has the value n
is_digit : ℕ → Bool
is_digit n = g.hex (slice_index lower_digits n) && eqb (g.hexed (slice_index lower_digits n)) n

hex_back : (n : ℕ) → n < 16 → (g.hex (slice_index lower_digits n) ≡ true) × (g.hexed (slice_index lower_digits n) ≡ n)
unfolding is_digit
hex_back n h =
    let p = and_parts (g.hex (slice_index lower_digits n)) _ (agree_below_at is_digit (λ _. true) 16 n refl h) in
    (p.0, eqb-true _ n p.1)

pub unit_escape-length : (b : ℕ) → length (unit_escape b) ≡ 6
unfolding encode_with
unit_escape-length b = refl

unit_is : (b : ℕ) → b < 32 → g.unit 0 0 (b / 16) (b % 16) ≡ b
unit_is b h = omega arith

unit_char : (b : ℕ) → b < 32 → Character (b ∷ []) (unit_escape b)
unfolding encode_with
unit_char b h =
    let hi = hex_back (b / 16) (omega arith) in
    let lo = hex_back (b % 16) (omega arith) in
    let u : g.unit 0 0 (g.hexed (slice_index lower_digits (b / 16))) (g.hexed (slice_index lower_digits (b % 16))) ≡ b = ap (λ x. g.unit 0 0 x (g.hexed (slice_index lower_digits (b % 16)))) hi.1 ∙ (ap (λ x. g.unit 0 0 (b / 16) x) lo.1 ∙ unit_is b h) in
    let low : g.surrogate (g.unit 0 0 (g.hexed (slice_index lower_digits (b / 16))) (g.hexed (slice_index lower_digits (b % 16)))) ≡ false = ap g.surrogate u ∙ and_left (leb 55296 b) (ltb b 57344) (lt-leb 55296 b (omega arith)) in
    subst (λ t. Character t (unit_escape b)) (ap encode u ∙ encode_ascii b (omega arith)) (Character.single (CodeUnit.digits 48 48 (slice_index lower_digits (b / 16)) (slice_index lower_digits (b % 16)) refl refl hi.0 lo.0) low)

by_control : (b : ℕ) → b < 32 → (p q r s t : Bool) → (p ≡ true → b ≡ 8) → (q ≡ true → b ≡ 9) → (r ≡ true → b ≡ 10) → (s ≡ true → b ≡ 12) → (t ≡ true → b ≡ 13) → Character (b ∷ []) (control_escape b (cond p (Some 98) (cond q (Some 116) (cond r (Some 110) (cond s (Some 102) (cond t (Some 114) None))))))
by_control b h true q r s t e f i j k = subst (λ x. Character (x ∷ []) (92 ∷ 98 ∷ [])) (sym (e refl)) (Character.escape 98 8 refl)
by_control b h false true r s t e f i j k = subst (λ x. Character (x ∷ []) (92 ∷ 116 ∷ [])) (sym (f refl)) (Character.escape 116 9 refl)
by_control b h false false true s t e f i j k = subst (λ x. Character (x ∷ []) (92 ∷ 110 ∷ [])) (sym (i refl)) (Character.escape 110 10 refl)
by_control b h false false false true t e f i j k = subst (λ x. Character (x ∷ []) (92 ∷ 102 ∷ [])) (sym (j refl)) (Character.escape 102 12 refl)
by_control b h false false false false true e f i j k = subst (λ x. Character (x ∷ []) (92 ∷ 114 ∷ [])) (sym (k refl)) (Character.escape 114 13 refl)
by_control b h false false false false false e f i j k = unit_char b h

by_mark : (b : ℕ) (p q r : Bool) → (p ≡ true → b < 32) → (q ≡ true → b ≡ 34) → (r ≡ true → b ≡ 92) → (p || (q || r)) ≡ true → Character (b ∷ []) (cond p (control_escape b (short_letter b)) (cond q (92 ∷ 34 ∷ []) (cond r (92 ∷ 92 ∷ []) (b ∷ []))))
by_mark b true q r e f h m = by_control b (e refl) (eqb b 8) (eqb b 9) (eqb b 10) (eqb b 12) (eqb b 13) (eqb-true b 8) (eqb-true b 9) (eqb-true b 10) (eqb-true b 12) (eqb-true b 13)
by_mark b false true r e f h m = subst (λ x. Character (x ∷ []) (92 ∷ 34 ∷ [])) (sym (f refl)) (Character.escape 34 34 refl)
by_mark b false false true e f h m = subst (λ x. Character (x ∷ []) (92 ∷ 92 ∷ [])) (sym (h refl)) (Character.escape 92 92 refl)
by_mark b false false false e f h m = absurd (false≢true m)

mark_char : (b : ℕ) → marked b ≡ true → Character (b ∷ []) (escaped b)
mark_char b m = by_mark b (ltb b 32) (eqb b 34) (eqb b 92) (ltb-true b 32) (eqb-true b 34) (eqb-true b 92) m

-- a byte of a character that stands for itself

high_kept : (b : ℕ) → 128 ≤ b → marked b ≡ false
high_kept b h = or_from (ltb b 32) (eqb b 34 || eqb b 92) (le-ltb b 32 (omega arith)) (or_from (eqb b 34) (eqb b 92) (ne_eqb b 34 (λ e. omega arith)) (ne_eqb b 92 (λ e. omega arith)))

plain_kept : (b : ℕ) → plain b ≡ true → marked b ≡ false
plain_kept b p =
    let a = and_parts (leb 32 b) (ltb b 128 && (not (eqb b 34) && not (eqb b 92))) p in
    let c = and_parts (ltb b 128) (not (eqb b 34) && not (eqb b 92)) a.1 in
    let d = and_parts (not (eqb b 34)) (not (eqb b 92)) c.1 in
    or_from (ltb b 32) (eqb b 34 || eqb b 92) (le-ltb b 32 (leb-true 32 b a.0)) (or_from (eqb b 34) (eqb b 92) (not-true (eqb b 34) d.0) (not-true (eqb b 92) d.1))

keeps : (b : ℕ) → 128 ≤ b → (s : List ℕ) → flat_map escaped s ≡ s → flat_map escaped (b ∷ s) ≡ b ∷ s
keeps b h s e = ap (λ t. t ++ flat_map escaped s) (kept b (high_kept b h)) ∙ ap (λ t. b ∷ t) e

by_second : (b : ℕ) (p q r s : Bool) → cond p (leb 160 b && leb b 191) (cond q (leb 128 b && leb b 159) (cond r (leb 144 b && leb b 191) (cond s (leb 128 b && leb b 143) (leb 128 b && leb b 191)))) ≡ true → 128 ≤ b
by_second b true q r s h = omega (arith, leb-true 160 b (and_parts (leb 160 b) (leb b 191) h).0)
by_second b false true r s h = leb-true 128 b (and_parts (leb 128 b) (leb b 159) h).0
by_second b false false true s h = omega (arith, leb-true 144 b (and_parts (leb 144 b) (leb b 191) h).0)
by_second b false false false true h = leb-true 128 b (and_parts (leb 128 b) (leb b 143) h).0
by_second b false false false false h = leb-true 128 b (and_parts (leb 128 b) (leb b 191) h).0

second-high : (a b : ℕ) → g.second a b ≡ true → 128 ≤ b
second-high a b h = by_second b (eqb a 224) (eqb a 237) (eqb a 240) (eqb a 244) h

tail-high : (b : ℕ) → g.tail b ≡ true → 128 ≤ b
tail-high b h = leb-true 128 b (and_parts (leb 128 b) (leb b 191) h).0

lead_high : (low up a : ℕ) → 128 ≤ low → (leb low a && leb a up) ≡ true → 128 ≤ a
lead_high low up a l h = omega (arith, leb-true low a (and_parts (leb low a) (leb a up) h).0)

pub raw_kept : {w : List ℕ} → Raw w → flat_map escaped w ≡ w
raw_kept (Raw.one b p) = ap (λ t. t ++ []) (kept b (plain_kept b p))
raw_kept (Raw.two a b l t) = keeps a (lead_high 194 223 a (omega arith) l) (b ∷ []) (keeps b (tail-high b t) [] refl)
raw_kept (Raw.three a b c l s t) = keeps a (lead_high 224 239 a (omega arith) l) (b ∷ c ∷ []) (keeps b (second-high a b s) (c ∷ []) (keeps c (tail-high c t) [] refl))
raw_kept (Raw.four a b c d l s t u) = keeps a (lead_high 240 244 a (omega arith) l) (b ∷ c ∷ d ∷ []) (keeps b (second-high a b s) (c ∷ d ∷ []) (keeps c (tail-high c t) (d ∷ []) (keeps d (tail-high d u) [] refl)))

letter_char : {w : List ℕ} → Letter w → Character w (flat_map escaped w)
letter_char (Letter.raw {w} r) = subst (Character w) (sym (raw_kept r)) (Character.raw r)
letter_char (Letter.mark b m) = subst (Character (b ∷ [])) (sym (append-nil (escaped b))) (mark_char b m)

pub joined_append : (s t : List ℕ) → flat_map escaped (s ++ t) ≡ flat_map escaped s ++ flat_map escaped t
joined_append [] t = refl
joined_append (x ∷ s) t = ap (λ z. escaped x ++ z) (joined_append s t) ∙ sym (append_assoc (escaped x) (flat_map escaped s) (flat_map escaped t))

letters_chars : {s : List ℕ} → Letters s → Chars s (flat_map escaped s)
letters_chars Letters.none = Chars.none
letters_chars (Letters.more {s} {w} ls l) = subst (Chars (s ++ w)) (sym (joined_append s w)) (Chars.more (letters_chars ls) (letter_char l))

-- ---- values

element_group : (w s : List ℕ) → w ++ 44 ∷ [] ++ s ++ [] ≡ w ++ (44 ∷ s)
element_group w s = simp (append_assoc, append-nil)

name_group : (s : List ℕ) → [] ++ 34 ∷ s ++ 34 ∷ [] ++ 58 ∷ [] ≡ (34 ∷ (s ++ 34 ∷ [])) ++ 58 ∷ []
name_group s = simp append_assoc

entry_group : (n s : List ℕ) → n ++ [] ++ s ++ [] ≡ n ++ s
entry_group n s = simp (append_assoc, append-nil)

further_group : (w n s : List ℕ) → w ++ 44 ∷ n ++ [] ++ s ++ [] ≡ w ++ (44 ∷ (n ++ s))
further_group w n s = simp (append_assoc, append-nil)

name_text : (k : List ℕ) → Letters k → Name k (quoted k ++ 58 ∷ [])
unfolding quoted
name_text k l = subst (Name k) (name_group (flat_map escaped k)) (Name.name Blank.none (letters_chars l) Blank.none)

mutual
  unfolding compact quoted

  value_text : (v : Value) → Writable v → g.Value (tree_of v) (compact v)
  value_text null h = g.Value.null_word
  value_text (bool true) h = g.Value.true_word
  value_text (bool false) h = g.Value.false_word
  value_text (int z) h = number_text z h
  value_text (uint n) h = g.Value.whole (g.Whole.plus (numeral n h))
  value_text (text s) h = g.Value.string (letters_chars h)
  value_text (list vs) h = list_text vs h
  value_text (map ms) h = map_text ms h

  list_text : (vs : Items) → WritableItems vs → g.Value (g.list (trees_from nil vs)) (91 ∷ (items_text vs ++ 93 ∷ []))
  list_text no_item h = g.Value.empty_list Blank.none
  list_text (item v vs) h = g.Value.full_list (elements (snoc nil (tree_of v)) (compact v) (subst (Elements (snoc nil (tree_of v))) (append-nil (compact v)) (Elements.one Blank.none (value_text v h.0) Blank.none)) vs h.1)

  map_text : (ms : Members) → WritableMembers ms → g.Value (g.object (members_from g.none ms)) (123 ∷ (members_text ms ++ 125 ∷ []))
  map_text no_member h = g.Value.empty_object Blank.none
  map_text (member k v ms) h =
      let first = g.with g.none k (tree_of v) in
      g.Value.full_object (subst (Entries (members_from first ms)) (append_assoc (quoted k ++ 58 ∷ []) (compact v) (more_members ms)) (entries first ((quoted k ++ 58 ∷ []) ++ compact v) (subst (Entries first) (entry_group (quoted k ++ 58 ∷ []) (compact v)) (Entries.sole (name_text k h.0) Blank.none (value_text v h.1.0) Blank.none)) ms h.1.1))

  elements : (ts : Trees) (w : List ℕ) → Elements ts w → (vs : Items) → WritableItems vs → Elements (trees_from ts vs) (w ++ more_items vs)
  elements ts w e no_item h = subst (Elements ts) (sym (append-nil w)) e
  elements ts w e (item v vs) h =
      subst (Elements (trees_from (snoc ts (tree_of v)) vs)) (append_assoc w (44 ∷ compact v) (more_items vs)) (elements (snoc ts (tree_of v)) (w ++ (44 ∷ compact v)) (subst (Elements (snoc ts (tree_of v))) (element_group w (compact v)) (Elements.more e Blank.none (value_text v h.0) Blank.none)) vs h.1)

  entries : (ts : g.Members) (w : List ℕ) → Entries ts w → (ms : Members) → WritableMembers ms → Entries (members_from ts ms) (w ++ more_members ms)
  entries ts w e no_member h = subst (Entries ts) (sym (append-nil w)) e
  entries ts w e (member k v ms) h =
      let next = g.with ts k (tree_of v) in
      let here = (quoted k ++ 58 ∷ []) ++ compact v in
      let inner : here ++ more_members ms ≡ (quoted k ++ 58 ∷ []) ++ (compact v ++ more_members ms) = append_assoc (quoted k ++ 58 ∷ []) (compact v) (more_members ms) in
      subst (Entries (members_from next ms)) (append_assoc w (44 ∷ here) (more_members ms) ∙ ap (λ t. w ++ (44 ∷ t)) inner) (entries next (w ++ (44 ∷ here)) (subst (Entries next) (further_group w (quoted k ++ 58 ∷ []) (compact v)) (Entries.further e (name_text k h.0) Blank.none (value_text v h.1.0) Blank.none)) ms h.1.1)

pub writes_json : WritesJson
writes_json v h = subst (Text (tree_of v)) (append-nil (compact v)) (Text.whole Blank.none (value_text v h) Blank.none)
