-- What is read up to a limit is answered, and the answer is written.
use Rattle.std.proofs.Common.{◌≡◌, ℕ, List, [], ◌++◌, take, Option, None, Some, IfSome, Result, Ok, Err, OnOk, ap, ◌∙◌, option_map, subst}
use Rattle.std.specs.Io.KnownBytes.{Appends}
use Rattle.jobs.specs.Answers.{Answers}

pub served : {A E : Type 0} (r : Result A E) (left : Option (List ℕ)) (limit : ℕ) (job start slice text bytes : List ℕ) (old new : Option (List ℕ))
    → limit ≡ 1024 → IfSome (option_map (take limit) left) (λ xs. job ≡ start ++ xs) → start ≡ [] → slice ≡ job → Answers slice text → bytes ≡ text
    → OnOk r (Appends old new bytes) → OnOk r (IfSome left (λ xs. (t : List ℕ) × Answers (take 1024 xs) t × Appends old new t))
served (Err e) left limit job start slice text bytes old new l j s w a b p = tt
served (Ok x) None limit job start slice text bytes old new l j s w a b p = tt
served (Ok x) (Some xs) limit job start slice text bytes old new l j s w a b p =
    let e : slice ≡ take 1024 xs = w ∙ j ∙ ap (λ front. front ++ take limit xs) s ∙ ap (λ n. take n xs) l in
    (text, subst (λ read. Answers read text) e a, subst (Appends old new) b p)
