-- Why the reader of the word answers as it promises.
use Rattle.std.proofs.Common.{◌≡◌, ℕ, ◌+◌, List, [], ◌∷◌, ◌++◌, take, sum, sym, subst, ap, ◌∙◌, refl, arith}
use Rattle.std.proofs.lemmas.List.{append_assoc}
use Rattle.sheets.specs.declared.faults.Fault.{Fault}
use Rattle.sheets.specs.Sheets.{spelled}
use Rattle.jobs.specs.Jobs.{to_symbols, Short, symbol_count, at_symbol}
use Rattle.jobs.specs.Steps.{Judged, PartRead, WordRead, StopsCount, StopsPart, StopsWord}
use Rattle.jobs.proofs.Steps.{stand_more, up_to_end}

-- The count is missing, or not the number of symbols.
pub no_symbol_count : (bytes : List ℕ) (at n : ℕ) (e : Fault) → StopsCount bytes at n n e → StopsWord bytes at n e
no_symbol_count bytes at n e stops number t whole n_is read = stops number (rw (read, n_is) (symbol_count whole))

-- A symbol is missing.
pub no_symbol : (bytes : List ℕ) (at n x : ℕ) (e : Fault) → Judged bytes at n n x → StopsPart bytes (at + 1) n e → StopsWord bytes at n e
no_symbol bytes at n x e j stops number t whole n_is read =
    let count_is : x ≡ sum t.blocks = omega (arith, j.least, j.most) in
    let as_spelled : (xs : List ℕ) → take (at + 1) bytes ++ xs ≡ to_symbols number t xs =
    λ xs. ap (λ (u : List ℕ). u ++ xs) (up_to_end (x ∷ []) j.stand read)
    ∙ append_assoc (spelled number t) (x ∷ []) xs
    ∙ ap (λ i. spelled number t ++ i ∷ xs) count_is
    in
    stops number (λ xs less. subst (λ (u : List ℕ). Short number u) (sym (as_spelled xs)) (at_symbol xs whole (omega arith)))

-- The symbols are all there.
pub word_read : (bytes word : List ℕ) (at n x : ℕ) → Judged bytes at n n x → PartRead bytes (at + 1) n word → WordRead bytes at n word
word_read bytes word at n x j p =
    let count_is : x ≡ n = omega (arith, j.least, j.most) in
    record { stand = rw count_is at (stand_more j.stand refl p.stand); as_many = p.as_many }
