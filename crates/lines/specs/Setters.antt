-- A task's fields, one setter each. Nothing outside this file writes a whole task, so that a field added later is added here.
use Rattle.std.specs.Prelude.{ℕ}
use Rattle.lines.specs.declared.Task.{Task}

-- the task whose fields are all 0
abbrev pub zero_task : Task
zero_task = record { aim = 0; toggle = 0; flag = 0; start = 0; count = 0; list = 0; line = 0; tag = 0; old = 0; looked = 0; work = 0; left = 0; own = 0 }

abbrev pub with_line : Task → ℕ → Task
with_line t x = record { aim = t.aim; toggle = t.toggle; flag = t.flag; start = t.start; count = t.count; list = t.list; line = x; tag = t.tag; old = t.old; looked = t.looked; work = t.work; left = t.left; own = t.own }

abbrev pub with_count : Task → ℕ → Task
with_count t x = record { aim = t.aim; toggle = t.toggle; flag = t.flag; start = t.start; count = x; list = t.list; line = t.line; tag = t.tag; old = t.old; looked = t.looked; work = t.work; left = t.left; own = t.own }

abbrev pub with_tag : Task → ℕ → Task
with_tag t x = record { aim = t.aim; toggle = t.toggle; flag = t.flag; start = t.start; count = t.count; list = t.list; line = t.line; tag = x; old = t.old; looked = t.looked; work = t.work; left = t.left; own = t.own }

abbrev pub with_old : Task → ℕ → Task
with_old t x = record { aim = t.aim; toggle = t.toggle; flag = t.flag; start = t.start; count = t.count; list = t.list; line = t.line; tag = t.tag; old = x; looked = t.looked; work = t.work; left = t.left; own = t.own }

abbrev pub with_list : Task → ℕ → Task
with_list t x = record { aim = t.aim; toggle = t.toggle; flag = t.flag; start = t.start; count = t.count; list = x; line = t.line; tag = t.tag; old = t.old; looked = t.looked; work = t.work; left = t.left; own = t.own }

abbrev pub with_looked : Task → ℕ → Task
with_looked t x = record { aim = t.aim; toggle = t.toggle; flag = t.flag; start = t.start; count = t.count; list = t.list; line = t.line; tag = t.tag; old = t.old; looked = x; work = t.work; left = t.left; own = t.own }

abbrev pub with_aim : Task → ℕ → Task
with_aim t x = record { aim = x; toggle = t.toggle; flag = t.flag; start = t.start; count = t.count; list = t.list; line = t.line; tag = t.tag; old = t.old; looked = t.looked; work = t.work; left = t.left; own = t.own }

abbrev pub with_toggle : Task → ℕ → Task
with_toggle t x = record { aim = t.aim; toggle = x; flag = t.flag; start = t.start; count = t.count; list = t.list; line = t.line; tag = t.tag; old = t.old; looked = t.looked; work = t.work; left = t.left; own = t.own }

abbrev pub with_flag : Task → ℕ → Task
with_flag t x = record { aim = t.aim; toggle = t.toggle; flag = x; start = t.start; count = t.count; list = t.list; line = t.line; tag = t.tag; old = t.old; looked = t.looked; work = t.work; left = t.left; own = t.own }

abbrev pub with_start : Task → ℕ → Task
with_start t x = record { aim = t.aim; toggle = t.toggle; flag = t.flag; start = x; count = t.count; list = t.list; line = t.line; tag = t.tag; old = t.old; looked = t.looked; work = t.work; left = t.left; own = t.own }

abbrev pub with_work : Task → ℕ → Task
with_work t x = record { aim = t.aim; toggle = t.toggle; flag = t.flag; start = t.start; count = t.count; list = t.list; line = t.line; tag = t.tag; old = t.old; looked = t.looked; work = x; left = t.left; own = t.own }

abbrev pub with_left : Task → ℕ → Task
with_left t x = record { aim = t.aim; toggle = t.toggle; flag = t.flag; start = t.start; count = t.count; list = t.list; line = t.line; tag = t.tag; old = t.old; looked = t.looked; work = t.work; left = x; own = t.own }

-- the task's own sense (02, P7)
abbrev pub with_own : Task → ℕ → Task
with_own t x = record { aim = t.aim; toggle = t.toggle; flag = t.flag; start = t.start; count = t.count; list = t.list; line = t.line; tag = t.tag; old = t.old; looked = t.looked; work = t.work; left = t.left; own = x }
