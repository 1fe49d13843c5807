-- Writes to a run of bytes, one after another.
use Rattle.std.specs.Prelude.{◌≡◌, ℕ, ◌+◌, ◌*◌, ◌<◌, ◌≤◌, List, ◌++◌, length, take, drop, slice_index, slice_index_or, refl}
use Rattle.std.proofs.Common.{append_assoc, sym, ap, ◌∙◌, arith, add-zero, length-append, drop-drop, get_or-drop}
use Rattle.std.proofs.lemmas.List.{drop_more}
use Rattle.std.proofs.lemmas.Slice.{take-put_mid, drop-put_mid}
use borrow.Rule.Slice.PartMut.{put_mid}
use Rattle.memory_store.specs.Memory.{overwritten, span, stored, key_bytes}

-- two writes side by side are one
pub two_writes : (xs ys zs : List ℕ) (a b j k : ℕ) → length ys ≡ j → length zs ≡ k → a + j ≡ b → b + k ≤ length xs → put_mid b k (put_mid a j xs ys) zs ≡ overwritten xs a (ys ++ zs)
two_writes xs ys zs a b j k ey ez eb h =
    let front : take b (put_mid a j xs ys) ≡ take a xs ++ ys = take-put_mid a j xs ys b (omega arith) (omega arith) in
    let back : drop k (drop b (put_mid a j xs ys)) ≡ drop (a + length (ys ++ zs)) xs =
    drop-drop k b (put_mid a j xs ys) ∙ drop-put_mid a j xs ys (b + k) (omega arith) (omega arith) ey ∙ ap (λ n. drop n xs) (rw (length-append ys zs) (omega arith)) in
    ap (λ l. l ++ (zs ++ drop k (drop b (put_mid a j xs ys)))) front
    ∙ ap (λ l. (take a xs ++ ys) ++ (zs ++ l)) back
    ∙ append_assoc (take a xs) ys (zs ++ drop (a + length (ys ++ zs)) xs)
    ∙ ap (λ l. take a xs ++ l) (sym (append_assoc ys zs (drop (a + length (ys ++ zs)) xs)))

-- a put, one place on
pub stored_more : (w : ℕ) (ps ks bs mem : List ℕ) (i at : ℕ) → i < length ps →
    stored w (drop i ps) (drop i ks) (drop at bs) mem
    ≡ stored w (drop (i + 1) ps) (drop (i + 1) ks) (drop (at + w) bs) (overwritten mem (slice_index ps i * span w) (key_bytes (slice_index ks i) ++ take w (drop at bs)))
stored_more w ps ks bs mem i at h =
    let first : slice_index_or (drop i ks) 0 0 ≡ slice_index_or ks i 0 = get_or-drop i ks 0 0 ∙ ap (λ n. slice_index ks n) (add-zero i) in
    rw (drop_more ps i 0 h, ← drop-drop 1 i ks, ← drop-drop w at bs, ← first) refl
