-- The texts that migrations run (PostgreSQL manual, "SQL Commands"; "System Administration Functions" for locks and sessions). A table and a
-- schema stand as they are handed in; a database is quoted.
use Rattle.std.specs.Prelude.{ℕ, ◌++◌, List, codes, nat_lt, if◌then◌else◌}
use Rattle.pg_migrate.specs.Quoting.{quoted}

abbrev pub create_schema_text : List ℕ → List ℕ
create_schema_text schema = codes "CREATE SCHEMA IF NOT EXISTS " ++ schema ++ codes ";"

abbrev pub create_table_text : List ℕ → List ℕ
create_table_text table = codes "CREATE TABLE IF NOT EXISTS " ++ table ++ codes " (\nversion BIGINT PRIMARY KEY,\ndescription TEXT NOT NULL,\ninstalled_on TIMESTAMPTZ NOT NULL DEFAULT now(),\nsuccess BOOLEAN NOT NULL,\nchecksum BYTEA NOT NULL,\nexecution_time BIGINT NOT NULL\n);"

abbrev pub dirty_version_text : List ℕ → List ℕ
dirty_version_text table = codes "SELECT version FROM " ++ table ++ codes " WHERE success = false ORDER BY version LIMIT 1"

abbrev pub list_text : List ℕ → List ℕ
list_text table = codes "SELECT version, checksum FROM " ++ table ++ codes " ORDER BY version"

abbrev pub current_database_text : List ℕ
current_database_text = codes "SELECT current_database()"

abbrev pub lock_text : List ℕ
lock_text = codes "SELECT pg_advisory_lock($1)"

abbrev pub unlock_text : List ℕ
unlock_text = codes "SELECT pg_advisory_unlock($1)"

abbrev pub insert_row_text : List ℕ → List ℕ
insert_row_text table = codes "INSERT INTO " ++ table ++ codes " ( version, description, success, checksum, execution_time ) VALUES ( $1, $2, TRUE, $3, -1 )"

abbrev pub update_time_text : List ℕ → List ℕ
update_time_text table = codes "UPDATE " ++ table ++ codes " SET execution_time = $1 WHERE version = $2"

abbrev pub delete_row_text : List ℕ → List ℕ
delete_row_text table = codes "DELETE FROM " ++ table ++ codes " WHERE version = $1"

-- ---- databases; a double quote is byte 34, and a quote 39

abbrev pub create_database_text : List ℕ → List ℕ
create_database_text database = codes "CREATE DATABASE " ++ quoted 34 database

abbrev pub drop_database_text : List ℕ → List ℕ
drop_database_text database = codes "DROP DATABASE IF EXISTS " ++ quoted 34 database

abbrev pub database_exists_text : List ℕ
database_exists_text = codes "select exists(SELECT 1 from pg_database WHERE datname = $1)"

abbrev pub version_text : List ℕ
version_text = codes "SELECT current_setting('server_version_num')"

unfoldable pub terminate_front : List ℕ → List ℕ
terminate_front process = codes "SELECT pg_terminate_backend(pg_stat_activity." ++ process ++ codes ") FROM pg_stat_activity WHERE pg_stat_activity.datname = "

unfoldable pub terminate_end : List ℕ → List ℕ
terminate_end process = codes " AND " ++ process ++ codes " <> pg_backend_pid()"

unfoldable pub terminate_by : List ℕ → List ℕ → List ℕ
terminate_by process database = terminate_front process ++ quoted 39 database ++ terminate_end process

-- by what the column of a session's process is called since version 9.2, and before
abbrev pub terminate_text : ℕ → List ℕ → List ℕ
terminate_text version database = if nat_lt version 90200 then terminate_by (codes "procpid") database else terminate_by (codes "pid") database
