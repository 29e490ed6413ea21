-- The loop that gathers the points of a code, block after block.
--
--   Gathering m ls ps xs i at points    after i blocks: the points so far and the route that is left make the whole route, and the
--                                       locators of the blocks so far are independent
use Rattle.std.proofs.Common.{◌≡◌, ℕ, suc, ◌+◌, ◌<◌, ◌≤◌, List, [], ◌∷◌, ◌++◌, map, length, get_or, take, drop, sym, refl, ap, ◌∙◌, subst, ap₂, append_assoc, append-nil, arith, length-append, below_more}
use Rattle.std.proofs.lemmas.List.{length-map}
use Rattle.std.proofs.lemmas.List.{drop_more, drop_all, drop-drop, take_all, take-append-drop, length-take}
use Rattle.fields.specs.Meaning.{Meaning}
use Rattle.fields.specs.Elements.{elems, ops}
use Rattle.skew.specs.declared.points.Point.{Point}
use Rattle.skew.specs.Roots.{Independent}
use Rattle.sheets.specs.declared.faults.Fault.{Fault}
use Rattle.sheets.specs.declared.faults.Reason.TheVariants.{Dependent}
use Rattle.ranks.specs.Ranks.{total, cut, Depends}
use Rattle.codes.specs.Fitness.{at_code, pointed, route, Gathered, Breaks}

-- The lengths of the first blocks and of the others make the whole.
pub total_split : (i : ℕ) (ls : List ℕ) → total (take i ls) + total (drop i ls) ≡ total ls
total_split ℕ.zero ls = omega arith
total_split (suc i) [] = refl
total_split (suc i) (n ∷ ls) = omega (arith, total_split i ls)

-- And one block more.
pub total_more : (i : ℕ) (ls : List ℕ) → i < length ls → total (take i ls) + get_or ls i 0 ≡ total (take (i + 1) ls)
total_more i ls h = omega (arith, total_split i ls, total_split (i + 1) ls, ap total (drop_more ls i 0 h))

-- Where block i stands.
cut_at : (ls xs b : List ℕ) (i : ℕ) → i < length ls → get_or (cut ls xs) i b ≡ take (get_or ls i 0) (drop (total (take i ls)) xs)
cut_at [] xs b i h = absurd (omega arith)
cut_at (n ∷ ls) xs b ℕ.zero h = refl
cut_at (n ∷ ls) xs b (suc i) h = cut_at ls (drop n xs) b i (omega arith) ∙ ap (take (get_or ls i 0)) (drop-drop (total (take i ls)) n xs)

-- A route has no more points than the lengths say.
route_length : (ls ps xs : List ℕ) → length (route ls ps xs) ≤ total ls
route_length [] ps xs = omega arith
route_length (n ∷ ls) [] xs = omega arith
route_length (n ∷ ls) (a ∷ ps) xs =
    omega (arith, length-append (map (pointed a) (take n xs)) (route ls ps (drop n xs)), length-map (take n xs) (pointed a), length-take n xs, route_length ls ps (drop n xs))

pub record Gathering (m : Meaning) (ls ps xs : List ℕ) (i at : ℕ) (points : List Point) : Type 0 where
  pub at_is : at ≡ total (take i ls)
  pub all : points ++ route (drop i ls) (drop i ps) (drop at xs) ≡ route ls ps xs
  pub free : (b : List ℕ) (j : ℕ) → j < i → Independent (ops m) (elems m (get_or (cut ls xs) j b))

module _ (m : Meaning) (ls ps xs : List ℕ) where
  pub starts : {points : List Point} → points ≡ [] → Gathering m ls ps xs 0 0 points
  starts e = record { at_is = refl; all = ap (λ z. z ++ route ls ps xs) e; free = λ b j h. absurd (omega arith) }

  -- The next block stands within the locators.
  pub fits : {i at : ℕ} {points : List Point} → i < length ls → length xs ≡ total ls → Gathering m ls ps xs i at points → at + get_or ls i 0 ≤ length xs
  fits {i} {at} h s w =
      let d : total (drop i ls) ≡ get_or ls i 0 + total (drop (i + 1) ls) = ap total (drop_more ls i 0 h) in
      omega (arith, w.at_is, total_split i ls)

  pub goes_on : {i at : ℕ} {points points' : List Point} {part : List ℕ} → i < length ls → length ps ≡ length ls → total ls ≤ 24 → Gathering m ls ps xs i at points
      → part ≡ take (get_or ls i 0) (drop at xs) → Independent (ops m) (elems m part) → points' ≡ take 24 (points ++ map (pointed (get_or ps i 0)) part)
      → Gathering m ls ps xs (i + 1) (at + get_or ls i 0) points'
  goes_on {i} {at} {points} {points'} {part} h s few w ep ind eo =
      let new = map (pointed (get_or ps i 0)) (take (get_or ls i 0) (drop at xs)) in
      let next = route (drop (i + 1) ls) (drop (i + 1) ps) (drop (at + get_or ls i 0) xs) in
      let step : route (drop i ls) (drop i ps) (drop at xs) ≡ new ++ next =
      ap₂ (λ u v. route u v (drop at xs)) (drop_more ls i 0 h) (drop_more ps i 0 (omega arith))
      ∙ ap (λ z. new ++ route (drop (i + 1) ls) (drop (i + 1) ps) z) (drop-drop (get_or ls i 0) at xs) in
      let whole : (points ++ new) ++ next ≡ route ls ps xs = append_assoc points new next ∙ ap (λ z. points ++ z) (sym step) ∙ w.all in
      let e : points' ≡ points ++ new =
      eo ∙ ap (λ q. take 24 (points ++ map (pointed (get_or ps i 0)) q)) ep
      ∙ take_all 24 (points ++ new) (omega (arith, length-append (points ++ new) next, ap length whole, route_length ls ps xs)) in
      record {
        at_is = ap (λ n. n + get_or ls i 0) w.at_is ∙ total_more i ls h;
        all = ap (λ z. z ++ next) e ∙ whole;
        free = λ b. below_more _ _ (w.free b) (subst (λ z. Independent (ops m) (elems m z)) (ep ∙ ap (λ n. take (get_or ls i 0) (drop n xs)) w.at_is ∙ sym (cut_at ls xs b i h)) ind);
      }

  pub ends : {i at : ℕ} {points : List Point} → length ls ≤ i → i ≤ length ls → Gathering m ls ps xs i at points → Gathered m ls ps xs points
  ends {i} {at} {points} h k w = record {
    all = sym (append-nil points) ∙ sym (ap (λ z. points ++ route z (drop i ps) (drop at xs)) (drop_all i ls h)) ∙ w.all;
    free = λ b j g. w.free b j (omega arith);
  }

  pub breaks : {i at j base : ℕ} {points : List Point} {part : List ℕ} {e : Fault} → i < length ls → Gathering m ls ps xs i at points → part ≡ take (get_or ls i 0) (drop at xs) → Depends m part j
      → e ≡ at_code Dependent (base + (at + j)) → Breaks m ls xs base e
  breaks {i} {at} {j} {base} h w ep d ee = record {
    front = take i ls;
    size = get_or ls i 0;
    rest = drop (i + 1) ls;
    place = j;
    lengths_are = sym (take-append-drop i ls) ∙ ap (λ z. take i ls ++ z) (drop_more ls i 0 h);
    before = λ b k g. w.free b k (omega (arith, length-take i ls));
    here = subst (λ z. Depends m z j) (ep ∙ ap (λ n. take (get_or ls i 0) (drop n xs)) w.at_is) d;
    fault = ee ∙ ap (λ n. at_code Dependent (base + (n + j))) w.at_is;
  }
