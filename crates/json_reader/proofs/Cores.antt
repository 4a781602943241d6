-- What is built of the frames.
use Rattle.std.proofs.Common.{◌≡◌, ℕ, suc, ◌-◌, ◌≤◌, List, [], ◌∷◌, ◌++◌, map, reverse, length, get_or, take, drop, sym, refl, ap, ◌∙◌, subst, arith}
use Rattle.json_values.proofs.Rows.{rows_of-length, rows_stay, rows_push}
use Rattle.json_values.specs.declared.parts.Part.{Part}
use Rattle.json_values.specs.declared.parts.Source.{Source}
use Rattle.json_values.specs.declared.table.Cell.{Cell}
use Rattle.json_values.specs.declared.table.Entry.{Entry}
use Rattle.json_values.specs.Meaning.{Row, no_row, part_of, children, meaning, row_of, rows_of}
use Rattle.json_scanner.specs.Grammar.{Tree, Members}
use Rattle.json_scanner.specs.Machine.{Frame, bare, sole, items, fields, field, kind, put}
use Rattle.json_scanner.specs.declared.modes.Container.{Container}
use Rattle.json_scanner.proofs.Bridge.{kind-put}
use Rattle.json_reader.proofs.Frames.{raw_rows, frame_rows, all_rows, frame_key, Ready}
use Rattle.json_reader.specs.Building.{no_key}
use Rattle.json_reader.specs.Values.{value_of, item_rows}
use Rattle.json_reader.specs.declared.builder.Open.{Open}
use Rattle.std.proofs.lemmas.List.{append_assoc, append-nil, map_push, take-map, drop-map, take_at, drop_at, take-append-drop, length-map, length-reverse, length-drop, reverse-append, reverse-reverse, drop-append-le}

-- the source's text begins with w
abbrev pub Over : Source → List ℕ → (Source → List ℕ) → Type 0
Over source w texts = (more : List ℕ) × (texts source ≡ w ++ more)

abbrev pub Reads : Source → List ℕ → Part → List ℕ → Type 0
Reads source w p k = (texts : Source → List ℕ) → Over source w texts → part_of texts p ≡ k

abbrev pub Means : Source → List ℕ → List Entry → Cell → Tree → Type 0
Means source w t x v = (texts : Source → List ℕ) → Over source w texts → (later : List Entry) → meaning texts (rows_of texts (t ++ later)) x ≡ value_of v

-- the containers that are open, the innermost first
abbrev pub Matches : Source → List ℕ → List Open → Frame → List Frame → Type 0
Matches source w [] f [] = Unit {0}
Matches source w [] f (g ∷ gs) = ⊥
Matches source w (o ∷ os) f [] = ⊥
Matches source w (o ∷ os) f (g ∷ gs) = (o.container ≡ kind f) × (o.first ≡ length (all_rows g gs)) × Reads source w o.key (frame_key g) × Matches source w os g gs

pub record Core (source : Source) (w : List ℕ) (t ps : List Entry) (os : List Open) (k : Part) (f : Frame) (gs : List Frame) : Type 0 where
  pub rows : (texts : Source → List ℕ) → Over source w texts → (later : List Entry) → map (row_of texts (rows_of texts (t ++ later))) ps ≡ all_rows f gs
  pub key : Reads source w k (frame_key f)
  pub opens : Matches source w (reverse os) f gs

over_more : (source : Source) (w x : List ℕ) (texts : Source → List ℕ) → Over source (w ++ x) texts → Over source w texts
over_more source w x texts o = (x ++ o.0, o.1 ∙ append_assoc w x o.0)

abbrev pub here : List ℕ → Source → List ℕ
here w s = w

pub over_here : (source : Source) (w : List ℕ) → Over source w (here w)
over_here source w = ([], sym (append-nil w))

-- ---- more text

matches_more : (source : Source) (w x : List ℕ) (os : List Open) (f : Frame) (gs : List Frame) → Matches source w os f gs → Matches source (w ++ x) os f gs
matches_more source w x [] f [] h = tt
matches_more source w x [] f (g ∷ gs) h = h
matches_more source w x (o ∷ os) f [] h = h
matches_more source w x (o ∷ os) f (g ∷ gs) h = (h.0, h.1, λ texts ov. h.2 texts (over_more source w x texts ov), matches_more source w x os g gs h.3)

pub core_text : {source : Source} {w : List ℕ} {t ps : List Entry} {os : List Open} {k : Part} {f : Frame} {gs : List Frame} (x : List ℕ) → Core source w t ps os k f gs → Core source (w ++ x) t ps os k f gs
core_text {source} {w} {t} {ps} {os} {k} {f} {gs} x c = record {
  rows = λ texts ov later. c.rows texts (over_more source w x texts ov) later;
  key = λ texts ov. c.key texts (over_more source w x texts ov);
  opens = matches_more source w x (reverse os) f gs c.opens;
}

-- the text from `begun` on, cut out
pub cut_reads : (source : Source) (w cs : List ℕ) (begun : ℕ) → begun ≤ length w → drop begun w ≡ cs → Reads source w (record { source = source; start = begun; len = length w - begun }) cs
cut_reads source w cs begun le e texts ov =
    let n : length cs ≡ length w - begun = sym (ap length e) ∙ length-drop begun w in
    ap (λ (z : List ℕ). take (length w - begun) (drop begun z)) ov.1
    ∙ (ap (take (length w - begun)) (drop-append-le begun w ov.0 le ∙ ap (λ z. z ++ ov.0) e)
    ∙ take_at cs ov.0 (length w - begun) n)

-- ---- one value more

matches_kind : (source : Source) (w : List ℕ) (os : List Open) (f f' : Frame) (gs : List Frame) → kind f ≡ kind f' → Matches source w os f gs → Matches source w os f' gs
matches_kind source w [] f f' [] e h = tt
matches_kind source w [] f f' (g ∷ gs) e h = h
matches_kind source w (o ∷ os) f f' [] e h = h
matches_kind source w (o ∷ os) f f' (g ∷ gs) e h = (h.0 ∙ e, h.1, h.2, h.3)

put_rows : (f : Frame) (gs : List Frame) (v : Tree) → Ready f gs → all_rows (put f v) gs ≡ all_rows f gs ++ record { key = frame_key f; value = value_of v } ∷ []
unfolding item_rows raw_rows
put_rows bare [] v h = refl
put_rows bare (g ∷ gs) v h = absurd h
put_rows (sole u) gs v h = absurd h
put_rows (items ts) [] v h = absurd h
put_rows (items ts) (g ∷ gs) v h = sym (append_assoc (all_rows g gs) (item_rows ts) (record { key = []; value = value_of v } ∷ []))
put_rows (fields ms) gs v h = absurd h
put_rows (field ms k) [] v h = absurd h
put_rows (field ms k) (g ∷ gs) v h = sym (append_assoc (all_rows g gs) (raw_rows ms) (record { key = k; value = value_of v } ∷ []))

put_key : (f : Frame) (gs : List Frame) (v : Tree) → Ready f gs → [] ≡ frame_key (put f v)
put_key bare gs v h = refl
put_key (sole u) gs v h = refl
put_key (items ts) gs v h = refl
put_key (fields ms) gs v h = refl
put_key (field ms k) gs v h = refl

pub core_put : {source : Source} {w : List ℕ} {t ps : List Entry} {os : List Open} {k : Part} {f : Frame} {gs : List Frame} (x : Cell) (place : ℕ) (v : Tree) → Ready f gs → Means source w t x v → Core source w t ps os k f gs → Core source w t (ps ++ record { key = k; place = place; cell = x } ∷ []) os no_key (put f v) gs
core_put {source} {w} {t} {ps} {os} {k} {f} {gs} x place v r means c = record {
  rows = λ texts ov later.
      map_push (row_of texts (rows_of texts (t ++ later))) ps (record { key = k; place = place; cell = x })
      ∙ ((λ i. c.rows texts ov later i ++ record { key = c.key texts ov i; value = means texts ov later i } ∷ [])
      ∙ sym (put_rows f gs v r));
  key = λ texts ov. put_key f gs v r;
  opens = matches_kind source w (reverse os) f (put f v) gs (sym (kind-put f v)) c.opens;
}

-- ---- a container opens

pub core_length : {source : Source} {w : List ℕ} {t ps : List Entry} {os : List Open} {k : Part} {f : Frame} {gs : List Frame} → Core source w t ps os k f gs → length ps ≡ length (all_rows f gs)
core_length {source} {w} {t} {ps} c = sym (length-map ps (row_of (here w) (rows_of (here w) (t ++ [])))) ∙ ap length (c.rows (here w) (over_here source w) [])

matches_length : (source : Source) (w : List ℕ) (os : List Open) (f : Frame) (gs : List Frame) → Matches source w os f gs → length os ≡ length gs
matches_length source w [] f [] h = refl
matches_length source w [] f (g ∷ gs) h = absurd h
matches_length source w (o ∷ os) f [] h = absurd h
matches_length source w (o ∷ os) f (g ∷ gs) h = ap suc (matches_length source w os g gs h.3)

pub core_depth : {source : Source} {w : List ℕ} {t ps : List Entry} {os : List Open} {k : Part} {f : Frame} {gs : List Frame} → Core source w t ps os k f gs → length os ≡ length gs
core_depth {source} {w} {t} {ps} {os} {k} {f} {gs} c = sym (length-reverse os) ∙ matches_length source w (reverse os) f gs c.opens

pub core_open : {source : Source} {w : List ℕ} {t ps : List Entry} {os : List Open} {k : Part} {f : Frame} {gs : List Frame} (f' : Frame) (n : Container) (place : ℕ) → frame_rows f' ≡ [] → [] ≡ frame_key f' → n ≡ kind f' → Core source w t ps os k f gs → Core source w t ps (os ++ record { container = n; first = length ps; key = k; place = place } ∷ []) no_key f' (f ∷ gs)
core_open {source} {w} {t} {ps} {os} {k} {f} {gs} f' n place none keyless same c =
    let o : Open = record { container = n; first = length ps; key = k; place = place } in
    record {
      rows = λ texts ov later. c.rows texts ov later ∙ (sym (append-nil (all_rows f gs)) ∙ ap (λ z. all_rows f gs ++ z) (sym none));
      key = λ texts ov. keyless;
      opens = subst (λ (z : List Open). Matches source w z f' (f ∷ gs)) (sym (reverse-append os (o ∷ []))) (same, core_length c, c.key, c.opens);
    }

-- ---- a key

name_rows : (ms : Members) (k : List ℕ) (gs : List Frame) → all_rows (fields ms) gs ≡ all_rows (field ms k) gs
name_rows ms k [] = refl
name_rows ms k (g ∷ gs) = refl

pub core_name : {source : Source} {w : List ℕ} {t ps : List Entry} {os : List Open} {k : Part} {ms : Members} {gs : List Frame} (p : Part) (name : List ℕ) → Reads source w p name → Core source w t ps os k (fields ms) gs → Core source w t ps os p (field ms name) gs
core_name {source} {w} {t} {ps} {os} {k} {ms} {gs} p name reads c = record {
  rows = λ texts ov later. c.rows texts ov later ∙ name_rows ms name gs;
  key = reads;
  opens = matches_kind source w (reverse os) (fields ms) (field ms name) gs refl c.opens;
}

-- ---- a container closes

-- the container that is open last, and those around it
pub innermost_open : (source : Source) (w : List ℕ) (os : List Open) (f g : Frame) (gs : List Frame) → Matches source w (reverse os) f (g ∷ gs) → (o : Open) × (rest : List Open) × (os ≡ rest ++ o ∷ []) × (o.container ≡ kind f) × (o.first ≡ length (all_rows g gs)) × Reads source w o.key (frame_key g) × Matches source w (reverse rest) g gs
innermost_open source w os f g gs h = by (reverse os) (sym (reverse-reverse os)) h
  where
    by : (ys : List Open) → os ≡ reverse ys → Matches source w ys f (g ∷ gs) → (o : Open) × (rest : List Open) × (os ≡ rest ++ o ∷ []) × (o.container ≡ kind f) × (o.first ≡ length (all_rows g gs)) × Reads source w o.key (frame_key g) × Matches source w (reverse rest) g gs
    by [] e h = absurd h
    by (o ∷ ys) e h = (o, reverse ys, e ∙ reverse-append (o ∷ []) ys, h.0, h.1, h.2, subst (λ (z : List Open). Matches source w z g gs) (sym (reverse-reverse ys)) h.3)

-- rows that are the same whatever comes later are added
module _ (texts : Source → List ℕ) (t : List Entry) where
  kids_rows : (kids : List Entry) (rs : List Row) (pre : List Entry) → ((later : List Entry) → map (row_of texts (rows_of texts (t ++ later))) kids ≡ rs) → rows_of texts (t ++ (pre ++ kids)) ≡ rows_of texts (t ++ pre) ++ rs
  kids_rows [] rs pre h =
      ap (λ (z : List Entry). rows_of texts (t ++ z)) (append-nil pre) ∙ (sym (append-nil (rows_of texts (t ++ pre))) ∙ ap (λ (z : List Row). rows_of texts (t ++ pre) ++ z) (h []))
  kids_rows (e ∷ es) [] pre h = let l : length (map (row_of texts (rows_of texts (t ++ []))) (e ∷ es)) ≡ 0 = ap length (h []) in absurd (omega arith)
  kids_rows (e ∷ es) (r ∷ rs) pre h =
      let first : row_of texts (rows_of texts (t ++ pre)) e ≡ r = ap (λ (z : List Row). get_or z 0 no_row) (h pre) in
      let more = λ (later : List Entry). ap (λ (z : List Row). drop 1 z) (h later) in
      ap (λ (z : List Entry). rows_of texts (t ++ z)) (sym (append_assoc pre (e ∷ []) es))
      ∙ (kids_rows es rs (pre ++ e ∷ []) more
      ∙ (ap (λ (z : List Row). z ++ rs) (ap (rows_of texts) (sym (append_assoc t pre (e ∷ []))) ∙ (rows_push texts (t ++ pre) e ∙ ap (λ (z : Row). rows_of texts (t ++ pre) ++ z ∷ []) first))
      ∙ append_assoc (rows_of texts (t ++ pre)) (r ∷ []) rs))

  -- the children of a container whose entries were added
  pub span_rows : (kids : List Entry) (rs : List Row) (later : List Entry) (count : ℕ) → count ≡ length kids → ((later : List Entry) → map (row_of texts (rows_of texts (t ++ later))) kids ≡ rs) → children (rows_of texts ((t ++ kids) ++ later)) (record { first = length t; count = count }) ≡ rs
  span_rows kids rs later count n h =
      let all : List Row = rows_of texts ((t ++ kids) ++ later) in
      let base : rows_of texts (t ++ kids) ≡ rows_of texts t ++ rs = kids_rows kids rs [] h ∙ ap (λ (z : List Entry). rows_of texts z ++ rs) (append-nil t) in
      let split : all ≡ rows_of texts t ++ (rs ++ drop (length (t ++ kids)) all) =
      sym (take-append-drop (length (t ++ kids)) all)
      ∙ (ap (λ (z : List Row). z ++ drop (length (t ++ kids)) all) (rows_stay texts (t ++ kids) later ∙ base)
      ∙ append_assoc (rows_of texts t) rs (drop (length (t ++ kids)) all)) in
      let long : length rs ≡ count = sym (ap length (h [])) ∙ (length-map kids (row_of texts (rows_of texts (t ++ []))) ∙ sym n) in
      ap (λ (z : List Row). take count (drop (length t) z)) split
      ∙ (ap (take count) (drop_at (rows_of texts t) (rs ++ drop (length (t ++ kids)) all) (length t) (rows_of-length texts t))
      ∙ take_at rs (drop (length (t ++ kids)) all) count long)

-- what waits around a container once its children are in the table
pub core_close : {source : Source} {w : List ℕ} {t ps : List Entry} {os rest : List Open} {k : Part} {f g : Frame} {gs : List Frame} (o : Open) (kids : List Entry) → o.first ≡ length (all_rows g gs) → Reads source w o.key (frame_key g) → Matches source w (reverse rest) g gs → Core source w t ps os k f (g ∷ gs) → Core source w (t ++ kids) (take o.first ps) rest o.key g gs
core_close {source} {w} {t} {ps} {os} {rest} {k} {f} {g} {gs} o kids first reads match c = record {
  rows = λ texts ov later.
      ap (λ (z : List Entry). map (row_of texts (rows_of texts z)) (take o.first ps)) (append_assoc t kids later)
      ∙ (sym (take-map (row_of texts (rows_of texts (t ++ (kids ++ later)))) o.first ps)
      ∙ (ap (take o.first) (c.rows texts ov (kids ++ later))
      ∙ take_at (all_rows g gs) (frame_rows f) o.first (sym first)));
  key = reads;
  opens = match;
}

-- the entries of the innermost container
pub core_inner : {source : Source} {w : List ℕ} {t ps : List Entry} {os : List Open} {k : Part} {f g : Frame} {gs : List Frame} (first : ℕ) → first ≡ length (all_rows g gs) → Core source w t ps os k f (g ∷ gs) → (texts : Source → List ℕ) → Over source w texts → (later : List Entry) → map (row_of texts (rows_of texts (t ++ later))) (drop first ps) ≡ frame_rows f
core_inner {source} {w} {t} {ps} {os} {k} {f} {g} {gs} first e c texts ov later =
    sym (drop-map (row_of texts (rows_of texts (t ++ later))) first ps) ∙ (ap (drop first) (c.rows texts ov later) ∙ drop_at (all_rows g gs) (frame_rows f) first (sym e))
