-- `field_head` meets its contract: each test is the definition's, on the same bytes, so the first that fails is the same.
-- Assumes nothing.
use mathlib.Core.Path.{sym, ◌∙◌}
use Rattle.reader.proofs.Heads.{head_cut, head_tag, head_too_many, head_length, head_short, head_whole}
use Rattle.reader.proofs.file.field_head.Goals as goal

pub returns-then-left-lt-HEAD_BYTES : goal.returns-then-left-lt-HEAD_BYTES
returns-then-left-lt-HEAD_BYTES c =
    let a = c.args in
    λ f begun. head_cut a.file.now a.progress f begun c.if-left-lt-HEAD_BYTES.true

pub returns-then-not-can_stand : goal.returns-then-not-can_stand
returns-then-not-can_stand c =
    let a = c.args in
    λ f begun.
    head_tag a.file.now a.progress f begun c.if-left-lt-HEAD_BYTES.false
    (sym c.can_stand.ensures ∙ c.if-not-can_stand.true)

pub returns-then-one_too_many : goal.returns-then-one_too_many
returns-then-one_too_many c =
    let a = c.args in
    λ f begun.
    head_too_many a.file.now a.progress f begun c.if-left-lt-HEAD_BYTES.false
    (sym c.can_stand.ensures ∙ c.if-not-can_stand.false)
    (sym c.one_too_many.ensures ∙ c.if-one_too_many.true)

pub returns-then-not-length_fits : goal.returns-then-not-length_fits
returns-then-not-length_fits c =
    let a = c.args in
    λ f begun.
    head_length a.file.now a.progress f begun c.if-left-lt-HEAD_BYTES.false
    (sym c.can_stand.ensures ∙ c.if-not-can_stand.false)
    (sym c.one_too_many.ensures ∙ c.if-one_too_many.false) c.two_at-size.result c.two_at-size.ensures
    (sym c.length_fits.ensures ∙ c.if-not-length_fits.true)

pub returns-then-left-size : goal.returns-then-left-size
returns-then-left-size c =
    let a = c.args in
    λ f begun.
    head_short a.file.now a.progress f begun c.if-left-lt-HEAD_BYTES.false
    (sym c.can_stand.ensures ∙ c.if-not-can_stand.false)
    (sym c.one_too_many.ensures ∙ c.if-one_too_many.false) c.two_at-size.result c.two_at-size.ensures
    (sym c.length_fits.ensures ∙ c.if-not-length_fits.false) c.if-left-size.true

pub returns : goal.returns
returns c =
    let a = c.args in
    λ f begun.
    head_whole a.file.now a.progress f begun c.if-left-lt-HEAD_BYTES.false
    (sym c.can_stand.ensures ∙ c.if-not-can_stand.false)
    (sym c.one_too_many.ensures ∙ c.if-one_too_many.false) c.two_at-size.result c.two_at-size.ensures
    (sym c.length_fits.ensures ∙ c.if-not-length_fits.false) c.if-left-size.false
