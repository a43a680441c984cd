-- The table that rows make up.
use Rattle.std.proofs.Common.{◌≡◌, ◌<◌, ◌≤◌, ◌*◌, ℕ, zero, suc, All, List, [], ◌∷◌, ⊎_elim, length, map, get_or, replicate, set, ℤ, pos, ap, ap₂, refl, sym, subst, ◌∙◌, arith}
use Rattle.std.proofs.lemmas.List.{get_or_past, get_or-map, get_or-replicate, length-map, length-replicate, map-set}
use Rattle.std.proofs.lemmas.List.Elements.{All-replicate}
use Rattle.std.proofs.lemmas.Bool.{cases_lt}
use Rattle.std.proofs.Math.Seq.{map-set_same}
use Rattle.mp_stamps.specs.Counts.{AreZeroRows, CountTable, start_of, table_of_rows}
use Rattle.mp_stamps.specs.Rows.{RowState, pieces_of}

no_row : RowState
no_row = record { given = 0; counts = [] }

with : ℕ → List ℕ → List (List ℤ) → List ℕ → CountTable
with stages times rows low = record { stages = stages; times = times; rows = rows; low = low }

-- Rows of zeros

fresh : ℕ → RowState
fresh n = record { given = 0; counts = replicate (1024 * pieces_of n) (pos 0) }

map_fresh : (places n : ℕ) → map (λ (r : RowState). r.counts) (replicate places (fresh n)) ≡ replicate places (replicate (1024 * pieces_of n) (pos 0))
unfolding fresh
map_fresh zero n = refl
map_fresh (suc p) n = ap (λ (xs : List (List ℤ)). replicate (1024 * pieces_of n) (pos 0) ∷ xs) (map_fresh p n)

low_fresh : (times : List ℕ) (places n : ℕ) → map (λ (r : RowState). start_of times r.given) (replicate places (fresh n)) ≡ replicate places 0
unfolding fresh
low_fresh times zero n = refl
low_fresh times (suc p) n = ap (λ (xs : List ℕ). 0 ∷ xs) (low_fresh times p n)

module _ (stages : ℕ) (times : List ℕ) (places n : ℕ) (rows : List RowState) (are : AreZeroRows places n rows) where
  counts_are : map (λ (r : RowState). r.counts) rows ≡ replicate places (replicate (1024 * pieces_of n) (pos 0))
  unfolding fresh
  counts_are = ap (λ (rs : List RowState). map (λ (r : RowState). r.counts) rs) are ∙ map_fresh places n

  pub fresh_rows : (length (map (λ (r : RowState). r.counts) rows) ≡ places) × All (λ (row : List ℤ). row ≡ replicate (1024 * pieces_of n) (pos 0)) (map (λ (r : RowState). r.counts) rows)
  fresh_rows = (
    ap (λ (xs : List (List ℤ)). length xs) counts_are ∙ length-replicate places _,
    subst (λ (xs : List (List ℤ)). All (λ (row : List ℤ). row ≡ replicate (1024 * pieces_of n) (pos 0)) xs) (sym counts_are) (All-replicate (λ (row : List ℤ). row ≡ replicate (1024 * pieces_of n) (pos 0)) places _ refl),
  )

  pub fresh_low : (p : ℕ) → get_or (map (λ (r : RowState). start_of times r.given) rows) p 0 ≡ 0
  unfolding fresh
  fresh_low p =
      ap (λ (rs : List RowState). get_or (map (λ (r : RowState). start_of times r.given) rs) p 0) are
      ∙ ap (λ (xs : List ℕ). get_or xs p 0) (low_fresh times places n)
      ∙ ⊎_elim (λ (l : p < places). get_or-replicate places p 0 0 l) (λ (l : places ≤ p). get_or_past (replicate places 0) p 0 (omega (arith, l, length-replicate places zero))) (cases_lt p places)

-- One of the rows

module _ (stages : ℕ) (times : List ℕ) (rows : List RowState) where
  abbrev table : CountTable
  table = table_of_rows stages times rows

  pub place_in : (p : ℕ) → p < length rows → p < length table.rows
  place_in p l = omega (arith, l, length-map rows (λ (r : RowState). r.counts))

  pub place_out : (p : ℕ) → p < length table.rows → p < length rows
  place_out p l = omega (arith, l, length-map rows (λ (r : RowState). r.counts))

  pub lows_in : length table.low ≡ length table.rows
  lows_in = length-map rows (λ (r : RowState). start_of times r.given) ∙ sym (length-map rows (λ (r : RowState). r.counts))

  module _ (p : ℕ) (row : RowState) (l : p < length rows) (own : row ≡ get_or rows p row) where
    pub own_counts : row.counts ≡ get_or table.rows p row.counts
    own_counts = ap (λ (r : RowState). r.counts) own ∙ sym (get_or-map (λ (r : RowState). r.counts) rows p row row.counts l)

    pub own_low : get_or table.low p 0 ≡ start_of times row.given
    own_low = get_or-map (λ (r : RowState). start_of times r.given) rows p row 0 l ∙ ap (λ (r : RowState). start_of times r.given) (sym own)

    -- another row there, of which nothing more was given back
    pub other_row : (new : RowState) → new.given ≡ row.given → table_of_rows stages times (set rows p new) ≡ record table { rows = set table.rows p new.counts }
    unfolding with
    other_row new same =
        ap₂ (λ (xs : List (List ℤ)) (ys : List ℕ). with stages times xs ys)
        (map-set (λ (r : RowState). r.counts) rows p new)
        (map-set_same (λ (r : RowState). start_of times r.given) rows p new row (ap (start_of times) (same ∙ ap (λ (r : RowState). r.given) own)))

    -- a row there with the same counts, of which more was given back
    pub lower_row : (new : RowState) → new.counts ≡ row.counts → table_of_rows stages times (set rows p new) ≡ record table { low = set table.low p (start_of times new.given) }
    unfolding with
    lower_row new same =
        ap₂ (λ (xs : List (List ℤ)) (ys : List ℕ). with stages times xs ys)
        (map-set_same (λ (r : RowState). r.counts) rows p new row (same ∙ ap (λ (r : RowState). r.counts) own))
        (map-set (λ (r : RowState). start_of times r.given) rows p new)
